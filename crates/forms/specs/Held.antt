-- As many slots of a level hold a block as blocks stand in it.
use Rattle.std.specs.Prelude.{◌≡◌, Bool, ◌&&◌, List, [], ◌∷◌, ◌++◌, ℕ, zero, suc, ◌+◌, ◌-◌, ◌*◌, ◌≤◌, ◌<◌, eqb, get_or, set, replicate}
use Rattle.std.proofs.Math.Path.{refl, ap}
use Rattle.std.proofs.Common.{sym, ◌∙◌, inl, length-set, get_or-set_same, get_or-set_other, eq-eqb, ne_eqb}
use Rattle.std.proofs.Math.Bool.{false}
use native.Mathlib.Omega.{arith}
use Rattle.std.proofs.Math.Decide.{ℕ_discrete}
use Rattle.std.proofs.Math.ListN.{length}
use Rattle.std.proofs.lemmas.List.{length-replicate}
use Rattle.lists.specs.All.{All, nil, cons}
use Rattle.lists.specs.Distinct.{NoDup}
use Rattle.lists.specs.Members.{all-mem, mem-all}
use Rattle.lists.specs.Search.{keep, below, keep-yes, keep-no}
use Rattle.lists.specs.Tests.{and-true, and-false}
use Rattle.rules.specs.Form.Loading.{block_at, place_of, loaded, is_in, stored_at}
use Rattle.rules.specs.Form.Reading.{Spot, absent, waits, at, Form}
use Rattle.rules.proofs.Laws.Layout.{cell-from, cell-inj, stride-le, offset-lt}
use Rattle.rules.specs.Shape.{Shape, slots, cell}
use Rattle.forms.specs.Cells.{SpotIn, PlacedIn, cell_at, cells_of}
use Rattle.forms.specs.Facts.{counter_of, Made, keep-blocks}
use Rattle.forms.specs.Levels.{held_in}
use Rattle.forms.specs.Once.{mark_all, none_seen}

held-zeros : (k c n : ℕ) → held_in (replicate k 0) c n ≡ 0
unfolding held_in
held-zeros k c zero = refl
held-zeros k c (suc n) = omega (arith, all-mem (none_seen k (c ∷ [])) c (inl refl), held-zeros k (suc c) n)

-- one more is marked
held_out : (seen : List ℕ) (x c n : ℕ) → (c ≤ x → ¬ (x < c + n)) → held_in (set seen x 1) c n ≡ held_in seen c n
unfolding held_in
held_out seen x c zero o = refl
held_out seen x c (suc n) o =
    let e : ¬ (c ≡ x) = λ e. o (omega arith) (omega arith) in
    omega (arith, get_or-set_other seen x c 1 0 e, held_out seen x (suc c) n (λ l u. o (omega arith) (omega arith)))

held_in_lem : (seen : List ℕ) (x c n : ℕ) → x < length seen → get_or seen x 0 ≡ 0 → c ≤ x → x < c + n → held_in (set seen x 1) c n ≡ held_in seen c n + 1
unfolding held_in
held_in_lem seen x c zero l z a b = absurd (omega arith)
held_in_lem seen x c (suc n) l z a b = go (ℕ_discrete c x) (λ a. held_in_lem seen x (suc c) n l z a (omega arith))
  where
    go : Dec (c ≡ x) → (suc c ≤ x → held_in (set seen x 1) (suc c) n ≡ held_in seen (suc c) n + 1) → get_or (set seen x 1) c 0 + held_in (set seen x 1) (suc c) n ≡ get_or seen c 0 + held_in seen (suc c) n + 1
    go (yes e) f =
        let s = ap (λ k. get_or (set seen x 1) k 0) e ∙ get_or-set_same seen x 1 0 l in
        let t = ap (λ k. get_or seen k 0) e in
        omega (arith, s, t, held_out seen x (suc c) n (λ a b. omega arith))
    go (no e) f = omega (arith, get_or-set_other seen x c 1 0 e, f (omega arith))

-- the blocks of level ℓ of partition q
abbrev in_level : ℕ → ℕ → ℕ × Spot → Bool
in_level q ℓ x = eqb x.0 q && is_in ℓ (place_of x.1)

pub cell-lt : (h : Shape) (q ℓ i : ℕ) → q < h.P → ℓ < h.L → i < slots ℓ → cell h q ℓ i < h.P * slots h.L
unfolding cell
cell-lt h q ℓ i a b l = omega (arith, stride-le h.P q (slots h.L) a, offset-lt h.L ℓ i b l)

module _ (h : Shape) (counter : ℕ → ℕ) (q ℓ : ℕ) (hℓ : ℓ < h.L) where
  abbrev from : ℕ
  from = cell h q ℓ 0

  -- a cell is of the level exactly if its block is
  inside : (x ℓ' i : ℕ) → ℓ' < h.L → i < slots ℓ' → from ≤ cell h x ℓ' i → cell h x ℓ' i < from + slots ℓ → (x ≡ q) × (ℓ' ≡ ℓ)
  inside x ℓ' i a b l u =
      let j : ℕ = cell h x ℓ' i - from in
      let r = cell-inj h x q ℓ' ℓ i j a hℓ b (omega arith) (omega (arith, cell-from h q ℓ j)) in
      (r.0, r.1)

  held_more : (seen : List ℕ) {xs : List (ℕ × Spot)} → h.P * slots h.L ≤ length seen → All (PlacedIn h counter) xs → NoDup (cells_of h xs) → All (λ c. get_or seen c 0 ≡ 0) (cells_of h xs)
      → held_in (mark_all seen (cells_of h xs)) from (slots ℓ) ≡ held_in seen from (slots ℓ) + length (keep (in_level q ℓ) xs)
  unfolding cells_of mark_all keep cell_at place_of is_in
  held_more seen long nil n u = omega arith
  held_more seen long (cons {x = x} {xs = xs} k ks) n u = go x.1 refl k.1 n u (λ s l m v. held_more s l ks m v)
    where
      none : is_in ℓ (place_of x.1) ≡ false → length (keep (in_level q ℓ) (x ∷ xs)) ≡ length (keep (in_level q ℓ) xs)
      none e = ap length (keep-no (in_level q ℓ) x xs (and-false (eqb x.0 q) e))

      go : (y : Spot) → x.1 ≡ y → SpotIn h (counter x.0) y → NoDup (cell_at h x.0 y ++ cells_of h xs) → All (λ c. get_or seen c 0 ≡ 0) (cell_at h x.0 y ++ cells_of h xs)
          → ((s : List ℕ) → h.P * slots h.L ≤ length s → NoDup (cells_of h xs) → All (λ c. get_or s c 0 ≡ 0) (cells_of h xs) → held_in (mark_all s (cells_of h xs)) from (slots ℓ) ≡ held_in s from (slots ℓ) + length (keep (in_level q ℓ) xs))
          → held_in (mark_all seen (cell_at h x.0 y ++ cells_of h xs)) from (slots ℓ) ≡ held_in seen from (slots ℓ) + length (keep (in_level q ℓ) (x ∷ xs))
      go absent e k n u ih = omega (arith, ih seen long n u, none (ap (λ y. is_in ℓ (place_of y)) e))
      go waits e k n u ih = omega (arith, ih seen long n u, none (ap (λ y. is_in ℓ (place_of y)) e))
      go (at ℓ' i) e v n (cons z u) ih =
          let rest = ih (set seen c 1) (omega (arith, length-set seen c 1)) n.1 (mem-all (cells_of h xs) (λ y m. get_or-set_other seen c y 1 0 (λ w. n.0 (rw w at m)) ∙ all-mem u y m)) in
          both (ℕ_discrete x.0 q) (ℕ_discrete ℓ' ℓ) rest
        where
          c : ℕ
          c = cell h x.0 ℓ' i

          place_is : is_in ℓ (place_of x.1) ≡ eqb ℓ' ℓ
          place_is = ap (λ y. is_in ℓ (place_of y)) e

          other : in_level q ℓ x ≡ false → (from ≤ c → ¬ (c < from + slots ℓ)) → held_in (mark_all (set seen c 1) (cells_of h xs)) from (slots ℓ) ≡ held_in (set seen c 1) from (slots ℓ) + length (keep (in_level q ℓ) xs)
              → held_in (mark_all (set seen c 1) (cells_of h xs)) from (slots ℓ) ≡ held_in seen from (slots ℓ) + length (keep (in_level q ℓ) (x ∷ xs))
          other w o rest = omega (arith, rest, held_out seen c from (slots ℓ) o, ap length (keep-no (in_level q ℓ) x xs w))

          same : x.0 ≡ q → ℓ' ≡ ℓ → (from ≤ c) × (c < from + slots ℓ)
          same a b =
              let w : c ≡ cell h q ℓ i = rw (a, b) refl in
              let m : i < slots ℓ = rw b at v.1 in
              (omega (arith, cell-from h q ℓ i), omega (arith, cell-from h q ℓ i))

          both : Dec (x.0 ≡ q) → Dec (ℓ' ≡ ℓ) → held_in (mark_all (set seen c 1) (cells_of h xs)) from (slots ℓ) ≡ held_in (set seen c 1) from (slots ℓ) + length (keep (in_level q ℓ) xs)
              → held_in (mark_all (set seen c 1) (cells_of h xs)) from (slots ℓ) ≡ held_in seen from (slots ℓ) + length (keep (in_level q ℓ) (x ∷ xs))
          both (yes a) (yes b) rest =
              let w = same a b in
              let hit = ap length (keep-yes (in_level q ℓ) x xs (and-true (eq-eqb x.0 q a) (place_is ∙ eq-eqb ℓ' ℓ b))) in
              omega (arith, rest, hit, held_in_lem seen c from (slots ℓ) (omega (arith, cell-lt h x.0 ℓ' i k.0 v.0 v.1)) z w.0 w.1)
          both (no a) d rest = other (rw (ne_eqb x.0 q a)) (λ l m. a (inside x.0 ℓ' i v.0 v.1 l m).0) rest
          both (yes a) (no b) rest = other (and-false (eqb x.0 q) (place_is ∙ ne_eqb ℓ' ℓ b)) (λ l m. b (inside x.0 ℓ' i v.0 v.1 l m).1) rest

-- at most 32,768 cells
pub held-stored : (f : Form) → Made f → f.shape.P * slots f.shape.L ≤ 32768 → All (PlacedIn f.shape (counter_of f)) f.blocks → NoDup (cells_of f.shape f.blocks) → (q ℓ : ℕ) → ℓ < f.shape.L
    → held_in (mark_all (replicate 32768 0) (cells_of f.shape f.blocks)) (cell f.shape q ℓ 0) (slots ℓ) ≡ length (stored_at (loaded f) q ℓ)
unfolding stored_at loaded
held-stored f made few placed once q ℓ hℓ =
    held_more f.shape (counter_of f) q ℓ hℓ (replicate 32768 0) (omega (arith, length-replicate {A = ℕ} 32768 0)) placed once (none_seen 32768 (cells_of f.shape f.blocks))
    ∙ ap (λ k. k + length (keep (in_level q ℓ) f.blocks)) (held-zeros 32768 (cell f.shape q ℓ 0) (slots ℓ)) ∙ zero_left (length (keep (in_level q ℓ) f.blocks))
    ∙ sym (ap (λ n. length (keep (λ b. in_level q ℓ (block_at f.blocks b)) (below n))) (sym made.blocks) ∙ keep-blocks (in_level q ℓ) f.blocks)
  where
    zero_left : (n : ℕ) → 0 + n ≡ n
    zero_left n = omega arith
