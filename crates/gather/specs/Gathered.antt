-- The gathered blocks as an ascending list that grows by insertion.
use Rattle.std.specs.Prelude.{◌≡◌, refl, true, false, List, [], ◌∷◌, ◌++◌, map, ℕ, zero, suc, ◌-◌, ◌≤◌, ◌<◌, length, take, get_or, eqb, ltb}
use Rattle.std.proofs.Common.{ap, arith}
use Rattle.lists.specs.All.{All}
use Rattle.lists.specs.Search.{keep, below}
use Rattle.rules.specs.Shape.{cell}
use Rattle.rules.specs.State.{State}
use Rattle.rules.specs.Levels.{filled}
use Rattle.rules.specs.Rebuild.{chosen, entries_in, gather_from}

-- each number is below those after it
abbrev pub Ascending : List ℕ → Type 0
Ascending [] = Unit {0}
Ascending (x ∷ xs) = All (λ y. x < y) xs × Ascending xs

-- x in its place in an ascending list, once
unfoldable pub inserted : ℕ → List ℕ → List ℕ
inserted x [] = x ∷ []
inserted x (y ∷ ys) = elim (ltb x y) [ true ↦ x ∷ y ∷ ys | false ↦ elim (eqb x y) [ true ↦ y ∷ ys | false ↦ y ∷ inserted x ys ] ]

-- the block that an entry of a slot names, in its place
unfoldable pub added : ℕ → List ℕ → List ℕ
added zero l = l
added (suc b) l = inserted b l

pub added-block : (e : ℕ) (l : List ℕ) → (e ≡ 0 → ⊥) → inserted (e - 1) l ≡ added e l
unfolding added
added-block zero l h = absurd (h refl)
added-block (suc b) l h = ap (λ x. inserted x l) (omega arith)

-- x belongs at place i of l: those before it are less, and those from there on are not
pub record Spot (x : ℕ) (l : List ℕ) (i : ℕ) : Type 0 where
  pub less : (j : ℕ) → j < i → get_or l j 0 < x
  pub others : (j : ℕ) → i ≤ j → j < length l → x ≤ get_or l j 0

-- the entries i to k - 1 of l are moved up by one in l', and those before them are as they were
pub record Shifted (l l' : List ℕ) (i k : ℕ) : Type 0 where
  pub kept : (j : ℕ) → j < i → get_or l' j 0 ≡ get_or l j 0
  pub moved : (j : ℕ) → i < j → j ≤ k → get_or l' j 0 ≡ get_or l (j - 1) 0

-- what a slot holds
unfoldable pub slot_at : State → ℕ → ℕ → ℕ → ℕ
slot_at s q ℓ i = s.holds (cell s.shape q ℓ i)

-- the blocks gathered of the sources below level ℓ, and of the first j slots of level ℓ
unfoldable pub gathered_to : State → ℕ → ℕ → ℕ → List ℕ
gathered_to s q ℓ j = gather_from (chosen s q) (entries_in (slot_at s q) (keep (filled (s.counter q)) (below ℓ)) ++ map (slot_at s q ℓ) (below j)) s.shape.N

-- the first r entries of the list are these blocks, unless there are more than the limit
pub record Gathers (blocks : List ℕ) (limit r : ℕ) (list : List ℕ) : Type 0 where
  pub all : r ≤ limit → take r list ≡ blocks
  pub more : limit < r → limit < length blocks
