-- What the code asks of the blocks and of a level, as facts.
use Rattle.std.specs.Prelude.{◌≡◌, ◌&&◌, eqb, leb, set, replicate}
use Rattle.std.proofs.Math.Path.{refl, ap, sym}
use Rattle.std.proofs.Common.{◌∙◌, inl, arith, length-set, pow_mono, get_or-set_same}
use Rattle.std.proofs.Math.Bool.{true}
use mathlib.Core.List.{List, [], ◌∷◌, ◌++◌}
use Prim.Native.Nat.{ℕ, zero, suc, ◌+◌, ◌*◌, ◌^◌, ◌≤◌, ◌<◌}
use Rattle.std.proofs.Math.Dec.{ltb}
use Rattle.std.proofs.Math.ListN.{length, get_or, length-replicate}
use Rattle.std.proofs.Math.Seq.{get_or-set_other}
use borrow.Author.Tests.{eqb-true, eq-eqb, leb-true, le-leb, ltb-true, lt-ltb}
use Rattle.lists.specs.All.{All, nil, cons, all_map}
use Rattle.lists.specs.Distinct.{Mem, NoDup}
use Rattle.lists.specs.Members.{all-mem, mem-all, dec_mem}
use Rattle.lists.specs.Tests.{and_l, and_r, and-true, every-yes, yes-every}
use Rattle.rules.specs.Form.Reading.{Spot, absent, waits, at, Level}
use Rattle.rules.proofs.Laws.Layout.{cell-from}
use Rattle.rules.specs.Shape.{Shape, slots, cell}
use Rattle.forms.specs.Blocks.{is_free, stands, marked, all_stand}
use Rattle.forms.specs.Cells.{PlacedIn, placed_in, placed-facts, facts-placed, cell_at, cells_of}
use Rattle.forms.specs.Facts.{Known, Sized, Ordered, Unread, all-at, at_all}
use Rattle.forms.specs.Held.{cell-lt}
use Rattle.forms.specs.Levels.{is_order, marks_fit, held_in, level_fits}
use Rattle.forms.specs.Once.{fresh_in, mark_all, fresh-once, once-fresh, none_seen, marked-in, marked-else}

-- ---- Blocks

module _ (h : Shape) (counter : ℕ → ℕ) where
  pub record Stood (seen : List ℕ) (xs : List (ℕ × Spot)) : Type 0 where
    pub placed : All (PlacedIn h counter) xs
    pub once : NoDup (cells_of h xs)
    pub unseen : All (λ c. get_or seen c 0 ≡ 0) (cells_of h xs)

  pub stand-facts : (seen : List ℕ) (xs : List (ℕ × Spot)) → h.P * slots h.L ≤ length seen → all_stand h counter seen xs ≡ true → Stood seen xs
  unfolding all_stand stands is_free cells_of cell_at fresh_in mark_all
  stand-facts seen [] l e = record { placed = nil; once = tt; unseen = nil }
  stand-facts seen (x ∷ xs) l e =
      let s = and_l (placed_in h counter x && is_free h seen x) _ e in
      let k = placed-facts h counter x (and_l (placed_in h counter x) _ s) in
      go x.1 k (and_r (placed_in h counter x) _ s) (λ q. stand-facts (marked h seen x) xs q (and_r (placed_in h counter x && is_free h seen x) _ e))
    where
      go : (y : Spot) → PlacedIn h counter (x.0, y) → fresh_in (λ c. true) seen (cell_at h x.0 y) ≡ true → (h.P * slots h.L ≤ length (mark_all seen (cell_at h x.0 y)) → Stood (mark_all seen (cell_at h x.0 y)) xs) → Stood seen ((x.0, y) ∷ xs)
      go absent k f ih = let r = ih l in record { placed = cons k r.placed; once = r.once; unseen = r.unseen }
      go waits k f ih = let r = ih l in record { placed = cons k r.placed; once = r.once; unseen = r.unseen }
      go (at ℓ i) k f ih = record {
        placed = cons k r.placed;
        once = (other, r.once);
        unseen = cons (eqb-true _ 0 (and_l (eqb (get_or seen c 0) 0) _ f)) (mem-all (cells_of h xs) (λ y m. sym (get_or-set_other seen c y 1 0 (λ w. other (rw w at m))) ∙ all-mem r.unseen y m));
      }
        where
          c : ℕ
          c = cell h x.0 ℓ i

          r : Stood (set seen c 1) xs
          r = ih (omega (arith, length-set seen c 1))

          other : ¬ Mem c (cells_of h xs)
          other m = omega (arith, all-mem r.unseen c m, get_or-set_same seen c 1 0 (omega (arith, cell-lt h x.0 ℓ i k.0 k.1.0 k.1.1)))

  pub facts-stand : (seen : List ℕ) {xs : List (ℕ × Spot)} → All (PlacedIn h counter) xs → NoDup (cells_of h xs) → All (λ c. get_or seen c 0 ≡ 0) (cells_of h xs) → all_stand h counter seen xs ≡ true
  unfolding all_stand stands is_free cells_of cell_at fresh_in mark_all
  facts-stand seen nil n u = refl
  facts-stand seen (cons {x = x} {xs = xs} k ks) n u = go x.1 k n u (λ s m v. facts-stand s ks m v)
    where
      go : (y : Spot) → PlacedIn h counter (x.0, y) → NoDup (cell_at h x.0 y ++ cells_of h xs) → All (λ c. get_or seen c 0 ≡ 0) (cell_at h x.0 y ++ cells_of h xs)
          → ((s : List ℕ) → NoDup (cells_of h xs) → All (λ c. get_or s c 0 ≡ 0) (cells_of h xs) → all_stand h counter s xs ≡ true)
          → ((placed_in h counter (x.0, y) && fresh_in (λ c. true) seen (cell_at h x.0 y)) && all_stand h counter (mark_all seen (cell_at h x.0 y)) xs) ≡ true
      go absent k n u ih = and-true (and-true (facts-placed h counter (x.0, absent) k) refl) (ih seen n u)
      go waits k n u ih = and-true (and-true (facts-placed h counter (x.0, waits) k) refl) (ih seen n u)
      go (at ℓ i) k n (cons z u) ih = and-true (and-true (facts-placed h counter (x.0, at ℓ i) k) (and-true (eq-eqb _ 0 z) refl))
          (ih (set seen (cell h x.0 ℓ i) 1) n.1 (mem-all (cells_of h xs) (λ y m. get_or-set_other seen (cell h x.0 ℓ i) y 1 0 (λ w. n.0 (rw w at m)) ∙ all-mem u y m)))

-- ---- A level

marks-at : (seen : List ℕ) (c : ℕ) (ms : List ℕ) → marks_fit seen c ms ≡ true → (j : ℕ) → j < length ms → get_or ms j 0 + get_or seen (c + j) 0 ≤ 1
unfolding marks_fit
marks-at seen c [] e j l = absurd (omega arith)
marks-at seen c (m ∷ ms) e zero l = let d : c + 0 ≡ c = omega arith in rw d (leb-true (m + get_or seen c 0) 1 (and_l (leb (m + get_or seen c 0) 1) _ e))
marks-at seen c (m ∷ ms) e (suc j) l = let d : c + suc j ≡ suc c + j = omega arith in rw d (marks-at seen (suc c) ms (and_r (leb (m + get_or seen c 0) 1) _ e) j (omega arith))

at-marks : (seen : List ℕ) (c : ℕ) (ms : List ℕ) → ((j : ℕ) → j < length ms → get_or ms j 0 + get_or seen (c + j) 0 ≤ 1) → marks_fit seen c ms ≡ true
unfolding marks_fit
at-marks seen c [] f = refl
at-marks seen c (m ∷ ms) f =
    let d : c + 0 ≡ c = omega arith in
    let first : m + get_or seen c 0 ≤ 1 = rw d at (f 0 (omega arith)) in
    and-true (le-leb _ 1 first) (at-marks seen (suc c) ms (λ j l. let d : c + suc j ≡ suc c + j = omega arith in rw d at (f (suc j) (omega arith))))

module _ (h : Shape) (cs : List ℕ) (few : h.P * slots h.L ≤ 32768) (levels : h.L ≤ 8) where
  abbrev seen_of : List ℕ
  seen_of = mark_all (replicate 32768 0) cs

  pub record Fitting (l : Level) : Type 0 where
    pub ordered : Ordered l
    pub marks : All (λ m. m ≤ 1) l.marks
    pub unread : Unread h cs l
    pub held : held_in seen_of (cell h l.partition l.level 0) (slots l.level) ≤ 2 ^ l.level

  few-slots : (l : Level) → Known h l → slots l.level ≤ 256
  few-slots l k = omega (arith, pow_mono {i = l.level + 1} {j = 8} (omega arith))

  cell-small : (l : Level) (i : ℕ) → Known h l → i < slots l.level → cell h l.partition l.level i < length {A = ℕ} (replicate 32768 0)
  cell-small l i k hi = omega (arith, cell-lt h l.partition l.level i k.0 k.1 hi, length-replicate {A = ℕ} 32768 0)

  pub fits-facts : (l : Level) → Known h l → Sized l → level_fits h seen_of l ≡ true → Fitting l
  unfolding level_fits is_order
  fits-facts l k z e =
      let y = every-yes _ e in
      let o = fresh-once (λ x. ltb x (slots l.level)) (replicate 256 0) l.order (λ x v. omega (arith, ltb-true x (slots l.level) v, few-slots l k, length-replicate {A = ℕ} 256 0)) y.0 in
      let m = marks-at seen_of (cell h l.partition l.level 0) l.marks y.1.0 in
      record {
        ordered = (o.once, all_map (λ x v. ltb-true x (slots l.level) v) o.pass);
        marks = at_all 0 l.marks (λ j v. let w = m j v in omega arith);
        unread = λ i hi c. let w = m i (omega (arith, z.1)) in omega (arith, w, ap (λ x. get_or seen_of x 0) (cell-from h l.partition l.level i), marked-in (replicate 32768 0) cs (cell h l.partition l.level i) (cell-small l i k hi) c);
        held = leb-true _ _ y.1.1.0;
      }

  pub facts-fits : (l : Level) → Known h l → Sized l → Fitting l → level_fits h seen_of l ≡ true
  unfolding level_fits is_order
  facts-fits l k z f = yes-every _ (
    once-fresh (λ x. ltb x (slots l.level)) (replicate 256 0) (all_map (λ x v. lt-ltb x (slots l.level) v) f.ordered.1) f.ordered.0 (none_seen 256 l.order),
    (at-marks seen_of (cell h l.partition l.level 0) l.marks (λ j v. mark j v (dec_mem (cell h l.partition l.level j) cs)), (le-leb _ _ f.held, tt)),
  )
    where
      mark : (j : ℕ) → j < length l.marks → Dec (Mem (cell h l.partition l.level j) cs) → get_or l.marks j 0 + get_or seen_of (cell h l.partition l.level 0 + j) 0 ≤ 1
      mark j v (yes m) =
          let hj : j < slots l.level = omega (arith, z.1) in
          omega (arith, f.unread j hj m, ap (λ x. get_or seen_of x 0) (cell-from h l.partition l.level j), marked-in (replicate 32768 0) cs (cell h l.partition l.level j) (cell-small l j k hj) m)
      mark j v (no m) =
          omega (arith, all-at 0 f.marks j v, ap (λ x. get_or seen_of x 0) (cell-from h l.partition l.level j), marked-else (replicate 32768 0) cs (cell h l.partition l.level j) m, all-mem (none_seen 32768 (cell h l.partition l.level j ∷ [])) (cell h l.partition l.level j) (inl refl))
