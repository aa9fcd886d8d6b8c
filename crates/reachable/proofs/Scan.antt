-- A job goes over the slots of its sources once: what its search finds, and what it has passed.
use Rattle.std.specs.Prelude.{◌≡◌, Bool, false, ◌&&◌, List, [], ◌∷◌, map, ℕ, zero, suc, ◌+◌, ◌-◌, ◌^◌, ◌≤◌, ◌<◌, leb}
use Rattle.std.proofs.Math.Option.{some}
use Rattle.std.proofs.Common.{arith, le-leb}
use Rattle.std.proofs.Math.Decide.{ℕ_discrete}
use Rattle.lists.specs.All.{All, nil, cons, all_map, all_right, all_left}
use Rattle.lists.specs.Ascending.{find-least, Ascends, none-ascends, ascends-append, one-ascends}
use Rattle.lists.specs.Members.{all-mem, below-mem}
use Rattle.lists.specs.Search.{find, below, count}
use Rattle.rules.proofs.Laws.Decided.{places-in}
use Rattle.rules.proofs.Laws.Layout.{offset-in}
use Rattle.rules.specs.Rebuild.{places}
use Rattle.rules.specs.Shape.{offset, slots}

-- The slots of the levels below n ascend
abbrev pub offset_of : ℕ × ℕ → ℕ
offset_of p = offset p.0 p.1

level-above : (n a k m : ℕ) → m < (slots n - 2) + a → All (λ (y : ℕ × ℕ). m < offset_of y) (map (λ i. (n, i)) (count a k))
unfolding count offset
level-above n a zero m l = nil
level-above n a (suc k) m l = cons l (level-above n (suc a) k m (omega arith))

level-ascends : (n a k : ℕ) → Ascends offset_of (map (λ i. (n, i)) (count a k))
unfolding count offset
level-ascends n a zero = none-ascends
level-ascends n a (suc k) = one-ascends (level-above n (suc a) k ((slots n - 2) + a) (omega arith)) (level-ascends n (suc a) k)

places-ascend : (n : ℕ) → Ascends offset_of (places n)
unfolding places below
places-ascend zero = none-ascends
places-ascend (suc n) = ascends-append offset_of (places-ascend n) (level-ascends n 0 (2 ^ (n + 1)))
    (all_map (λ x h. level-above n 0 (2 ^ (n + 1)) (offset_of x) (omega (arith, offset-in n x.0 x.1 h.0 h.1))) (places-in n))

all_from : (P : ℕ × ℕ → Type 0) (n : ℕ) (xs : List ℕ) → All P (map (λ i. (n, i)) xs) → All (λ i. P (n, i)) xs
all_from P n [] h = nil
all_from P n (x ∷ xs) (cons h t) = cons h (all_from P n xs t)

places-all : (P : ℕ × ℕ → Type 0) (n : ℕ) → All P (places n) → (ℓ i : ℕ) → ℓ < n → i < slots ℓ → P (ℓ, i)
unfolding places
places-all P zero h ℓ i k l = absurd (omega arith)
places-all P (suc n) h ℓ i k l = go (ℕ_discrete ℓ n) (places-all P n (all_left (places n) (map (λ i. (n, i)) (below (2 ^ (n + 1)))) h) ℓ i)
  where
    go : Dec (ℓ ≡ n) → (ℓ < n → i < slots ℓ → P (ℓ, i)) → P (ℓ, i)
    go (yes e) ih = rw e (all-mem (all_from P n (below (2 ^ (n + 1))) (all_right (places n) (map (λ i. (n, i)) (below (2 ^ (n + 1)))) h)) i (below-mem (2 ^ (n + 1)) i (rw e at l)))
    go (no e) ih = ih (omega arith) l

-- A search from a cursor on, over the slots of the levels below n
module _ (cursor n : ℕ) (p : ℕ → ℕ → Bool) where
  abbrev pub test : ℕ × ℕ → Bool
  test x = leb cursor (offset x.0 x.1) && p x.0 x.1

  from : (x : ℕ × ℕ) → cursor ≤ offset_of x → test x ≡ false → p x.0 x.1 ≡ false
  from x l e = rw (le-leb cursor (offset x.0 x.1) l) at e

  -- no slot between the cursor and what is found passes
  pub scan-least : (x : ℕ × ℕ) → find test (places n) ≡ some x → (ℓ i : ℕ) → ℓ < n → i < slots ℓ → cursor ≤ offset ℓ i → offset ℓ i < offset_of x → p ℓ i ≡ false
  scan-least x e ℓ i hℓ hi l u = from (ℓ, i) l (places-all (λ y. offset_of y < offset_of x → test y ≡ false) n (find-least offset_of test (places-ascend n) x e) ℓ i hℓ hi u)

  -- where nothing is found, no slot from the cursor on passes
  pub scan-none : All (λ x. test x ≡ false) (places n) → (ℓ i : ℕ) → ℓ < n → i < slots ℓ → cursor ≤ offset ℓ i → p ℓ i ≡ false
  scan-none h ℓ i hℓ hi l = from (ℓ, i) l (places-all (λ y. test y ≡ false) n h ℓ i hℓ hi)
