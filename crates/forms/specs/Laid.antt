-- The tables that a form's levels lay out: levels lie apart, so that each entry is that of its level.
use Rattle.std.specs.Prelude.{◌≡◌, Bool, List, [], ◌∷◌, ◌++◌, map, length, get_or}
use Rattle.std.proofs.Math.Path.{refl}
use Rattle.std.proofs.Common.{◌∙◌, arith}
use Rattle.std.proofs.Math.Bool.{true, false}
use Prim.Native.Nat.{ℕ, zero, suc, ◌+◌, ◌-◌, ◌≤◌, ◌<◌}
use Rattle.std.proofs.Math.Pow.{pow_mono}
use Rattle.lists.specs.All.{All, nil, cons, all_map, all_append, all_keep}
use Rattle.lists.specs.Members.{mem_below, keep-mem, mem-all, count-from}
use Rattle.lists.specs.Search.{keep, below, count, keep-yes, keep-no}
use Rattle.lists.specs.Tables.{put_all, put_all-in, put_all-before, put_all-has}
use Rattle.rules.specs.Form.Loading.{lay_over}
use Rattle.rules.specs.Form.Numbers.{each}
use Rattle.rules.specs.Form.Payload.{filled_levels}
use Rattle.rules.proofs.Laws.Form.Tables.{Some, here, there, Covers, all-each, all-mapped}
use Rattle.rules.proofs.Laws.Layout.{stride-le}
use Rattle.rules.specs.Levels.{filled}
use Rattle.rules.specs.Shape.{Shape, slots, cell}

-- each element stands so to all behind it
pub data Pairs {A : Type 0} (R : A → A → Type 0) : List A → Type 0 where
  none-pairs : Pairs R []
  more-pairs : {x : A} {xs : List A} → All (R x) xs → Pairs R xs → Pairs R (x ∷ xs)

module _ {A : Type 0} {R : A → A → Type 0} where
  pairs-append : {xs ys : List A} → Pairs R xs → Pairs R ys → All (λ x. All (R x) ys) xs → Pairs R (xs ++ ys)
  pairs-append none-pairs b nil = b
  pairs-append (more-pairs h a) b (cons k t) = more-pairs (all_append h k) (pairs-append a b t)

  pairs-keep : (p : A → Bool) {xs : List A} → Pairs R xs → Pairs R (keep p xs)
  unfolding keep
  pairs-keep p none-pairs = none-pairs
  pairs-keep p (more-pairs {x = x} {xs = xs} h a) = go (p x) refl (pairs-keep p a)
    where
      go : (t : Bool) → p x ≡ t → Pairs R (keep p xs) → Pairs R (keep p (x ∷ xs))
      go true e k = rw (keep-yes p x xs e) (more-pairs (all_keep p h) k)
      go false e k = rw (keep-no p x xs e) k

  pairs-map : {B : Type 0} {S : B → B → Type 0} (f : B → A) {xs : List B} → ((x y : B) → S x y → R (f x) (f y)) → Pairs S xs → Pairs R (map f xs)
  pairs-map f g none-pairs = none-pairs
  pairs-map f g (more-pairs {x = x} h a) = more-pairs (all-mapped f (all_map (g x) h)) (pairs-map f g a)

-- ---- What is laid out in turn

module _ (c : ℕ) (Q : ℕ → Type 0) where
  -- what every list that covers a cell has there, and the table at first
  pub lay-every : {xs : List (ℕ × List ℕ)} (t : ℕ → ℕ) → All (λ (x : ℕ × List ℕ). Covers c x → Q (get_or x.1 (c - x.0) 0)) xs → Q (t c) → Q (lay_over t xs c)
  unfolding lay_over
  lay-every t nil h = h
  lay-every t (cons {x = x} k ks) h = lay-every (put_all x.0 x.1 t) ks (put_all-has Q x.0 x.1 t c (λ l u. k (l, u)) h)

  -- ..or one that does cover it
  pub lay-covered : {xs : List (ℕ × List ℕ)} (t : ℕ → ℕ) → All (λ (x : ℕ × List ℕ). Covers c x → Q (get_or x.1 (c - x.0) 0)) xs → Some (Covers c) xs → Q (lay_over t xs c)
  unfolding lay_over
  lay-covered t nil x3 = elim x3 [ ]
  lay-covered t (cons {x = x} k ks) (here v) = lay-every (put_all x.0 x.1 t) ks (rw (put_all-in x.0 x.1 t c v.0 v.1) (k v))
  lay-covered t (cons {x = x} k ks) (there v) = lay-covered (put_all x.0 x.1 t) ks v

abbrev pub Ahead : ℕ × List ℕ → ℕ × List ℕ → Type 0
Ahead x y = x.0 + length x.1 ≤ y.0

lay-under : (c : ℕ) {xs : List (ℕ × List ℕ)} (t : ℕ → ℕ) → All (λ (x : ℕ × List ℕ). c < x.0) xs → lay_over t xs c ≡ t c
unfolding lay_over
lay-under c t nil = refl
lay-under c t (cons {x = x} k ks) = lay-under c (put_all x.0 x.1 t) ks ∙ put_all-before x.0 x.1 t c k

-- of lists that lie apart each is found where it was laid
pub lay-own : {xs : List (ℕ × List ℕ)} (t : ℕ → ℕ) → Pairs Ahead xs → All (λ (x : ℕ × List ℕ). (c : ℕ) → Covers c x → lay_over t xs c ≡ get_or x.1 (c - x.0) 0) xs
unfolding lay_over
lay-own t none-pairs = nil
lay-own t (more-pairs {x = x} {xs = xs} h a) = cons
    (λ c k. lay-under c (put_all x.0 x.1 t) (all_map (λ y l. before c y l k.1) h) ∙ put_all-in x.0 x.1 t c k.0 k.1)
    (lay-own (put_all x.0 x.1 t) a)
  where
    before : (c : ℕ) (y : ℕ × List ℕ) → Ahead x y → c < x.0 + length x.1 → c < y.0
    before c y l u = omega arith

-- ---- The filled levels

pairs-count : (a n : ℕ) → Pairs ◌<◌ (count a n)
unfolding count
pairs-count a zero = none-pairs
pairs-count a (suc n) = more-pairs (all_map (λ x k. after x k) (count-from (suc a) n)) (pairs-count (suc a) n)
  where
    after : (x : ℕ) → suc a ≤ x → a < x
    after x k = omega arith

module _ (h : Shape) (counter : ℕ → ℕ) where
  -- the cells of one level end before those of the other
  abbrev pub Before : ℕ × ℕ → ℕ × ℕ → Type 0
  Before k j = cell h k.0 k.1 0 + slots k.1 ≤ cell h j.0 j.1 0

  abbrev levels_of : ℕ → List (ℕ × ℕ)
  levels_of q = map (λ ℓ. (q, ℓ)) (keep (filled (counter q)) (below h.L))

  higher : (q ℓ m : ℕ) → ℓ < m → Before (q, ℓ) (q, m)
  unfolding cell
  higher q ℓ m l = omega (arith, pow_mono {i = suc (ℓ + 1)} {j = m + 1} (omega arith))

  later : (q p ℓ m : ℕ) → q < p → ℓ < h.L → Before (q, ℓ) (p, m)
  unfolding cell
  later q p ℓ m l k = omega (arith, pow_mono {i = suc (ℓ + 1)} {j = h.L + 1} (omega arith), stride-le p q (slots h.L) l)

  pub levels-in : (q : ℕ) → All (λ (k : ℕ × ℕ). (k.0 ≡ q) × (k.1 < h.L)) (levels_of q)
  levels-in q = all-mapped _ (mem-all (keep (filled (counter q)) (below h.L)) (λ ℓ m. (refl, mem_below h.L ℓ (keep-mem (filled (counter q)) (below h.L) ℓ m))))

  partition-ordered : (q : ℕ) → Pairs Before (levels_of q)
  unfolding below
  partition-ordered q = pairs-map (λ ℓ. (q, ℓ)) (higher q) (pairs-keep (filled (counter q)) (pairs-count 0 h.L))

  from-ordered : (a n : ℕ) → Pairs Before (each levels_of (count a n))
  unfolding each count
  from-ordered a zero = none-pairs
  from-ordered a (suc n) = pairs-append (partition-ordered a) (from-ordered (suc a) n)
      (all_map (λ k v. all-each levels_of (all_map (λ p l. all_map (λ j w. behind k j p v w l) (levels-in p)) (count-from (suc a) n))) (levels-in a))
    where
      behind : (k j : ℕ × ℕ) (p : ℕ) → (k.0 ≡ a) × (k.1 < h.L) → (j.0 ≡ p) × (j.1 < h.L) → suc a ≤ p → Before k j
      behind k j p v w l = later k.0 j.0 k.1 j.1 (omega (arith, v.0, w.0)) v.1

  pub levels-ordered : Pairs Before (filled_levels h.P h.L counter)
  unfolding filled_levels below
  levels-ordered = from-ordered 0 h.P
