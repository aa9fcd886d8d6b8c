-- A set of slots in a hidden arrangement, and the trades of a read. Where the slot at a hidden place is read, that slot is drawn when it is
-- shown. Where the slot is known beforehand, its place is drawn, which nobody sees. Either way an arrangement of the other slots is left.
use Rattle.std.specs.Prelude.{◌≡◌, refl, List, [], ◌∷◌, ℕ, suc, ◌≤◌, ◌<◌, length, get_or}
use Rattle.std.proofs.Common.{ap, sym, ◌∙◌, inl, ⊎_elim, arith}
use Rattle.lists.specs.Members.{dec_mem, nodup-sub}
use Rattle.lists.specs.Places.{insert_at, remove_at, remove-mem, length-remove, removed, insert-remove, nodup-remove, length-insert, nodup-insert, get-insert, mem-remove, mem-insert, remove-insert, index-insert}
use Rattle.lists.specs.Distinct.{Mem, NoDup, index, index-mem, mem-at}
use Rattle.rules.specs.Draws.{Drew}
use Rattle.matching.specs.Trades.{Trades, None}
use Rattle.matching.specs.Reads.{Arranges, Pick, less}

pub nothing : Arranges [] []
nothing = (refl, tt, λ z m. m)

pub none-arranges : (h : List ℕ) → Arranges [] h → h ≡ []
none-arranges [] a = refl
none-arranges (x ∷ h) a = absurd (a.2 x (inl refl))

module _ (x : ℕ) (U : List ℕ) (m : Mem x U) where
  pub length-less : suc (length (less x U)) ≡ length U
  length-less = length-remove (index x U) U (index-mem x U m).0

  pub not-less : NoDup U → ¬ Mem x (less x U)
  not-less u = rw (index-mem x U m).1 at (removed (index x U) U u (index-mem x U m).0)

  pub mem-less : (z : ℕ) → Mem z U → ¬ (z ≡ x) → Mem z (less x U)
  mem-less z k n = ⊎_elim (λ e. absurd (n (e ∙ (index-mem x U m).1))) (λ k'. k') (remove-mem z (index x U) U k)

-- an arrangement has every slot
pub arranges-mem : (x : ℕ) (U h : List ℕ) → Arranges U h → Mem x U → Mem x h
arranges-mem x U h a m = go (dec_mem x h)
  where
    go : Dec (Mem x h) → Mem x h
    go (yes k) = k
    go (no k) =
        let r = nodup-sub h (less x U) a.1 (λ z q. mem-less x U m z (a.2 z q) (λ e. k (rw e at q))) in
        absurd (omega (arith, length-less x U m))

module _ (U : List ℕ) (n : ℕ) (u : NoDup U) (k : n < length U) where
  -- the slot at place n is taken out, and put in again
  pub out-ok : (h : List ℕ) → Arranges U h → Mem (get_or h n 0) U × Arranges (less (get_or h n 0) U) (remove_at n h)
  out-ok h a =
      let i : n < length h = omega arith in
      let m = a.2 (get_or h n 0) (mem-at h n i) in (
        m,
        (
          omega (arith, length-remove n h i, length-less (get_or h n 0) U m),
          nodup-remove n h a.1,
          λ z q. mem-less (get_or h n 0) U m z (a.2 z (mem-remove z n h q)) (λ e. removed n h a.1 i (rw e at q)),
        ),
      )

  pub in-ok : (x : ℕ) (h : List ℕ) → Mem x U → Arranges (less x U) h → Arranges U (insert_at n x h)
  in-ok x h m a = (
    omega (arith, length-insert n x h, length-less x U m),
    nodup-insert n x h a.1 (λ q. not-less x U m u (a.2 x q)),
    λ z q. ⊎_elim (λ e. rw e m) (λ q'. mem-remove z (index x U) U (a.2 z q')) (mem-insert z n x h q),
  )

pub pick-mem : (U e : List ℕ) → Pick U e → Mem (get_or e 0 0) U
pick-mem U [] p = absurd p
pick-mem U (x ∷ []) p = p
pick-mem U (x ∷ y ∷ e) p = absurd p

module _ (U : List ℕ) (n : ℕ) where
  abbrev pub take_out : List ℕ × List ℕ → List ℕ × List ℕ
  take_out x = (get_or x.0 n 0 ∷ [], remove_at n x.0)

  abbrev pub put_in : List ℕ × List ℕ → List ℕ × List ℕ
  put_in y = (insert_at n (get_or y.0 0 0) y.1, [])

  module _ (u : NoDup U) (k : n < length U) where
    pub put-in-ok : (y : List ℕ × List ℕ) → Pick U y.0 × Arranges (less (get_or y.0 0 0) U) y.1 → Arranges U (put_in y).0 × (take_out (put_in y) ≡ y)
    put-in-ok ([], h) p = absurd p.0
    put-in-ok (e ∷ [], h) p =
        let l : n ≤ length h = omega (arith, length-less e U p.0) in
        (in-ok U n u k e h p.0 p.1, rw (get-insert n e h l, remove-insert n e h l))
    put-in-ok (e ∷ f ∷ es, h) p = absurd p.0

    abbrev pub fetch : Trades {D = List ℕ} {E = List ℕ} {H = List ℕ} (Arranges U) None (Pick U) (λ e. Arranges (less (get_or e 0 0) U))
    fetch = record {
      f = take_out;
      g = put_in;
      f-ok = λ x p. out-ok U n u k x.0 p.0;
      g-ok = λ y p. ((put-in-ok y p).0, refl);
      g-f = λ x p i. (insert-remove n x.0 (omega arith) i, sym p.1 i);
      f-g = λ y p. (put-in-ok y p).1;
      same = λ x p. refl;
    }

-- slots 2, 0, 1 in this order: of place 1 slot 0 is shown, and 2, 1 are left
taken_out : take_out (0 ∷ 1 ∷ 2 ∷ []) 1 (2 ∷ 0 ∷ 1 ∷ [], []) ≡ (0 ∷ [], 2 ∷ 1 ∷ [])
taken_out = refl

-- ---- slot x is read, wherever it stands

module _ (x : ℕ) (U : List ℕ) where
  abbrev pub find-out : List ℕ × List ℕ → List ℕ × List ℕ
  find-out a = (index x a.0 ∷ [], remove_at (index x a.0) a.0)

  abbrev pub put_back : List ℕ × List ℕ → List ℕ × List ℕ
  put_back y = (insert_at (get_or y.0 0 0) x y.1, [])

  module _ (u : NoDup U) (m : Mem x U) where
    pub place-lt : (h : List ℕ) → Arranges U h → (index x h < length U) × (get_or h (index x h) 0 ≡ x)
    place-lt h a =
        let r = index-mem x h (arranges-mem x U h a m) in
        (omega arith, r.1)

    pub put-back-ok : (y : List ℕ × List ℕ) → Drew (length U ∷ []) y.0 × Arranges (less x U) y.1 → Arranges U (put_back y).0 × (find-out (put_back y) ≡ y)
    put-back-ok ([], h) p = absurd p.0
    put-back-ok (k ∷ [], h) p =
        let l : k ≤ length h = omega (arith, length-less x U m) in
        let n : ¬ Mem x h = λ q. not-less x U m u (p.1.2 x q) in
        (in-ok U k u p.0.0 x h m p.1, rw (index-insert k x h l p.1.1 n, remove-insert k x h l))
    put-back-ok (k ∷ j ∷ ks, h) p = absurd p.0.1

    abbrev pub locate : Trades {D = List ℕ} {E = List ℕ} {H = List ℕ} (Arranges U) None (Drew (length U ∷ [])) (λ e. Arranges (less x U))
    locate = record {
      f = find-out;
      g = put_back;
      f-ok = λ a p.
          let q = place-lt a.0 p.0 in
          ((q.0, tt), rw q.1 at (out-ok U (index x a.0) u q.0 a.0 p.0).1);
      g-ok = λ y p. ((put-back-ok y p).0, refl);
      g-f = λ a p.
          let q = place-lt a.0 p.0 in
          let e : insert_at (index x a.0) x (remove_at (index x a.0) a.0) ≡ a.0 =
          ap (λ z. insert_at (index x a.0) z (remove_at (index x a.0) a.0)) (sym q.1) ∙ insert-remove (index x a.0) a.0 (omega arith) in
          λ i. (e i, sym p.1 i);
      f-g = λ y p. (put-back-ok y p).1;
      same = λ a p. refl;
    }
