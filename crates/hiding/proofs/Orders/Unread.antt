-- A level's unread slots: what a read and a rewrite make of them.
use Rattle.std.specs.Prelude.{◌≡◌, Bool, ◌&&◌, List, [], ℕ, ◌<◌, length, replicate, if◌then◌else◌}
use Rattle.std.proofs.Math.Path.{refl}
use Rattle.std.proofs.Common.{ap, sym, ◌∙◌}
use Rattle.std.proofs.Math.Bool.{true, false}
use Rattle.std.proofs.lemmas.List.{length-replicate, get_or-replicate}
use Rattle.std.proofs.Math.Dec.{eqb, ltb}
use borrow.Author.Tests.{eqb-true, eq-eqb, ltb-true, lt-ltb}
use Rattle.lists.specs.Members.{keep-mem, mem-keep, nodup-keep, keep_same, all-mem, nodup-below, mem_below}
use Rattle.lists.specs.Tables.{put, put_all, put_same, put_other}
use Rattle.lists.specs.Places.{keep_all, keep-less}
use Rattle.lists.specs.All.{keep-passes}
use Rattle.lists.specs.Tests.{and_l, and_r}
use Rattle.lists.specs.Distinct.{Mem, NoDup}
use Rattle.lists.specs.Search.{keep, below}
use Rattle.rules.proofs.Laws.Layout.{cell-inj}
use Rattle.rules.specs.Shape.{Shape, slots, cell}
use Rattle.matching.specs.Reads.{less}
use Rattle.matching.specs.Keyed.{Key, update}
use Rattle.matching.proofs.Keyed.{update-is}
use Rattle.reachable.proofs.Cells.{level-here, level-else}
use Rattle.hiding.specs.Machines.Public.{open_in, unread_in}

-- another level's cells, where one level is written
pub level-other : (h : Shape) (q ℓ : ℕ) (vs : List ℕ) (f : ℕ → ℕ) → length vs ≡ slots ℓ → (k : Key) (z : ℕ) →
    ℓ < h.L → k.1 < h.L → ¬ (k ≡ (q, ℓ)) → z < slots k.1 →
    put_all (cell h q ℓ 0) vs f (cell h k.0 k.1 z) ≡ f (cell h k.0 k.1 z)
level-other h q ℓ vs f len k z b d n l = level-else h q ℓ vs f len k.0 k.1 z b d l (λ e. n (λ i. (sym e.0 i, sym e.1 i)))

-- ---- the open ones among some slots of each level

module _ (h : Shape) (mark : ℕ → ℕ) (xs : Key → List ℕ) (q ℓ : ℕ) where
  pub open-in : q < h.P → ℓ < h.L → open_in h mark xs (q, ℓ) ≡ keep (λ i. eqb (mark (cell h q ℓ i)) 1) (xs (q, ℓ))
  unfolding open_in
  open-in a b = rw (lt-ltb q h.P a, lt-ltb ℓ h.L b)

  -- a level that has open slots is one of the shape
  pub open-key : (z : ℕ) → Mem z (open_in h mark xs (q, ℓ)) → (q < h.P) × (ℓ < h.L)
  unfolding open_in
  open-key z m = go (ltb q h.P && ltb ℓ h.L) refl m
    where
      go : (t : Bool) → (ltb q h.P && ltb ℓ h.L) ≡ t → Mem z (if t then keep (λ i. eqb (mark (cell h q ℓ i)) 1) (xs (q, ℓ)) else []) → (q < h.P) × (ℓ < h.L)
      go true e m = (ltb-true q h.P (and_l _ _ e), ltb-true ℓ h.L (and_r (ltb q h.P) (ltb ℓ h.L) e))
      go false e m = absurd m

  pub open-mem : (z : ℕ) → Mem z (open_in h mark xs (q, ℓ)) → Mem z (xs (q, ℓ)) × (mark (cell h q ℓ z) ≡ 1)
  open-mem z m =
      let k = open-key z m in
      let m' = rw (open-in k.0 k.1) at m in
      (keep-mem _ (xs (q, ℓ)) z m', eqb-true _ _ (all-mem (keep-passes (λ i. eqb (mark (cell h q ℓ i)) 1) (xs (q, ℓ))) z m'))

  pub mem-open : (z : ℕ) → q < h.P → ℓ < h.L → Mem z (xs (q, ℓ)) → mark (cell h q ℓ z) ≡ 1 → Mem z (open_in h mark xs (q, ℓ))
  mem-open z a b m e = rw (open-in a b) (mem-keep (λ i. eqb (mark (cell h q ℓ i)) 1) (xs (q, ℓ)) z m (eq-eqb _ _ e))

-- two families agree on a level if they do where the level is one of the shape
open-same : (h : Shape) (mark mark' : ℕ → ℕ) (xs xs' : Key → List ℕ) (k : Key) →
    (k.0 < h.P → k.1 < h.L → (xs' k ≡ xs k) × ((z : ℕ) → Mem z (xs k) → mark' (cell h k.0 k.1 z) ≡ mark (cell h k.0 k.1 z))) →
    open_in h mark' xs' k ≡ open_in h mark xs k
unfolding open_in
open-same h mark mark' xs xs' k f = go (ltb k.0 h.P && ltb k.1 h.L) refl
  where
    go : (t : Bool) → (ltb k.0 h.P && ltb k.1 h.L) ≡ t →
        (if t then keep (λ i. eqb (mark' (cell h k.0 k.1 i)) 1) (xs' k) else []) ≡ (if t then keep (λ i. eqb (mark (cell h k.0 k.1 i)) 1) (xs k) else [])
    go true e =
        let r = f (ltb-true k.0 h.P (and_l _ _ e)) (ltb-true k.1 h.L (and_r (ltb k.0 h.P) (ltb k.1 h.L) e)) in
        rw r.0 (keep_same _ _ (xs k) (λ z m. ap (λ v. eqb v 1) (r.1 z m)))
    go false e = refl

-- the slots of each level are slots of the level
abbrev pub Fitting : Shape → (Key → List ℕ) → Type 0
Fitting h xs = (k : Key) → k.0 < h.P → k.1 < h.L → (z : ℕ) → Mem z (xs k) → z < slots k.1

module _ (h : Shape) (mark : ℕ → ℕ) (xs : Key → List ℕ) (q ℓ : ℕ) where
  -- slot x is read
  pub open-read : (x : ℕ) → Fitting h xs → NoDup (open_in h mark xs (q, ℓ)) → Mem x (open_in h mark xs (q, ℓ)) →
      open_in h (put (cell h q ℓ x) 0 mark) xs ≡ update (q, ℓ) (less x (open_in h mark xs (q, ℓ))) (open_in h mark xs)
  open-read x fits u m = update-is (q, ℓ) _ (open_in h mark xs) (open_in h new xs) here (λ k n. open-same h mark new xs xs k (λ a b. (refl, λ z i. there k n a b z i)))
    where
      new : ℕ → ℕ
      new = put (cell h q ℓ x) 0 mark

      k : (q < h.P) × (ℓ < h.L)
      k = open-key h mark xs q ℓ x m

      r : Mem x (xs (q, ℓ)) × (mark (cell h q ℓ x) ≡ 1)
      r = open-mem h mark xs q ℓ x m

      here : open_in h new xs (q, ℓ) ≡ less x (open_in h mark xs (q, ℓ))
      here = open-in h new xs q ℓ k.0 k.1 ∙ rw (open-in h mark xs q ℓ k.0 k.1)
          (keep-less (λ i. eqb (mark (cell h q ℓ i)) 1) (λ i. eqb (new (cell h q ℓ i)) 1) x (eq-eqb _ _ r.1)
          (rw (put_same (cell h q ℓ x) 0 mark)) (xs (q, ℓ))
          (λ z i n. rw (put_other (cell h q ℓ x) 0 mark (cell h q ℓ z) (λ e. n (cell-inj h q q ℓ ℓ z x k.1 k.1 (fits (q, ℓ) k.0 k.1 z i) (fits (q, ℓ) k.0 k.1 x r.0) e).2)))
          (rw (open-in h mark xs q ℓ k.0 k.1) at u) r.0)

      there : (j : Key) → ¬ (j ≡ (q, ℓ)) → j.0 < h.P → j.1 < h.L → (z : ℕ) → Mem z (xs j) → new (cell h j.0 j.1 z) ≡ mark (cell h j.0 j.1 z)
      there j n a b z i = put_other (cell h q ℓ x) 0 mark (cell h j.0 j.1 z) (λ e.
          let c = cell-inj h j.0 q j.1 ℓ z x b k.1 (fits j a b z i) (fits (q, ℓ) k.0 k.1 x r.0) e in
          n (λ i. (c.0 i, c.1 i)))

  -- the level is written, with these slots
  pub open-written : (xs' : Key → List ℕ) → q < h.P → ℓ < h.L → Fitting h xs →
      ((z : ℕ) → Mem z (xs' (q, ℓ)) → z < slots ℓ) →
      ((k : Key) → ¬ (k ≡ (q, ℓ)) → k.0 < h.P → k.1 < h.L → xs' k ≡ xs k) →
      open_in h (put_all (cell h q ℓ 0) (replicate (slots ℓ) 1) mark) xs' ≡ update (q, ℓ) (xs' (q, ℓ)) (open_in h mark xs)
  open-written xs' a b fits fits' same = update-is (q, ℓ) (xs' (q, ℓ)) (open_in h mark xs) (open_in h new xs')
      (open-in h new xs' q ℓ a b ∙ keep_all _ (xs' (q, ℓ)) (λ z i. eq-eqb _ _ (written z (fits' z i))))
      (λ k n. open-same h mark new xs xs' k (λ c d. (same k n c d, λ z i. other k n d z (fits k c d z i))))
    where
      new : ℕ → ℕ
      new = put_all (cell h q ℓ 0) (replicate (slots ℓ) 1) mark

      len : length (replicate {A = ℕ} (slots ℓ) 1) ≡ slots ℓ
      len = length-replicate {A = ℕ} (slots ℓ) 1

      written : (z : ℕ) → z < slots ℓ → new (cell h q ℓ z) ≡ 1
      written z l = level-here h q ℓ (replicate (slots ℓ) 1) mark len z l ∙ get_or-replicate (slots ℓ) z 1 0 l

      other : (k : Key) → ¬ (k ≡ (q, ℓ)) → k.1 < h.L → (z : ℕ) → z < slots k.1 → new (cell h k.0 k.1 z) ≡ mark (cell h k.0 k.1 z)
      other k n d z l = level-other h q ℓ (replicate (slots ℓ) 1) mark len k z b d n l

-- ---- all unread slots of a level

pub nodup-unread : (h : Shape) (mark : ℕ → ℕ) (k : Key) → NoDup (unread_in h mark k)
unfolding open_in
nodup-unread h mark k = go (ltb k.0 h.P && ltb k.1 h.L)
  where
    go : (t : Bool) → NoDup (if t then keep (λ i. eqb (mark (cell h k.0 k.1 i)) 1) (below (slots k.1)) else [])
    go true = nodup-keep _ (below (slots k.1)) (nodup-below (slots k.1))
    go false = tt

-- slot x of a level is read
pub unread-read : (h : Shape) (mark : ℕ → ℕ) (q ℓ x : ℕ) → Mem x (unread_in h mark (q, ℓ)) →
    unread_in h (put (cell h q ℓ x) 0 mark) ≡ update (q, ℓ) (less x (unread_in h mark (q, ℓ))) (unread_in h mark)
unread-read h mark q ℓ x m = open-read h mark (λ k. below (slots k.1)) q ℓ x (λ k a b z i. mem_below (slots k.1) z i) (nodup-unread h mark (q, ℓ)) m

-- level t of q is written
pub unread-written : (h : Shape) (mark : ℕ → ℕ) (q t : ℕ) → q < h.P → t < h.L →
    unread_in h (put_all (cell h q t 0) (replicate (slots t) 1) mark) ≡ update (q, t) (below (slots t)) (unread_in h mark)
unread-written h mark q t a b = open-written h mark (λ k. below (slots k.1)) q t (λ k. below (slots k.1)) a b
    (λ k a b z i. mem_below (slots k.1) z i) (λ z i. mem_below (slots t) z i) (λ k n a b. refl)
