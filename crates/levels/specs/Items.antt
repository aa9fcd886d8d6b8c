-- The search of a level's items for an unread dummy, or for any that is unread.
use Rattle.std.specs.Prelude.{◌≡◌, Bool, true, false, ◌&&◌, ℕ, ◌+◌, ◌≤◌, ◌<◌, eqb, if◌then◌else◌}
use Rattle.std.proofs.Common.{sym, ◌∙◌, arith, eq-eqb}
use Rattle.std.proofs.Math.Path.{ap}
use Rattle.std.proofs.Math.Bool.{and_comm}
use mathlib.Core.List.{List, [], append-nil}
use Rattle.std.proofs.Math.Option.{Option, none, some}
use Rattle.lists.specs.Search.{find, is_none}
use Rattle.rules.specs.Shape.{slots, cell}
use Rattle.rules.specs.State.{State}
use Rattle.rules.specs.Blocks.{holder, is_unread}
use Rattle.rules.specs.Reader.{dummy, lowest}
use Rattle.memory.specs.Words.{word_at, Numbers}
use Rattle.memory.specs.Tables.{tables_of}
use Rattle.memory.specs.Fits.{shape_of, fit, fit-lt}
use Rattle.client.specs.declared.Client.{Client}
use Rattle.client.specs.View.{state_of}
use Rattle.levels.specs.Walks.{first, first-hit, first-miss, first_done, first-all, first-same}
use Rattle.levels.specs.Slots.{unread-is, dummy-is, order_is}

-- whether slot i is unread and holds no block below the bound, by what the slots hold and by their marks
abbrev pub free_at : ℕ → (ℕ → ℕ) → (ℕ → ℕ) → ℕ → Bool
free_at bound holds marks i = eqb (fit bound (holds i)) 0 && eqb (fit 2 (marks i)) 1

-- the slot of item k of n
abbrev pub item_at : ℕ → (ℕ → ℕ) → ℕ → ℕ
item_at n order k = fit n (order k)

-- what the items from k up to n give
unfoldable pub items_from : ℕ → ℕ → (ℕ → ℕ) → (ℕ → ℕ) → (ℕ → ℕ) → ℕ → Option ℕ
items_from n bound order holds marks k = first (free_at bound holds marks) (item_at n order) [] n k

pub items-done : (n bound : ℕ) (order holds marks : ℕ → ℕ) (k : ℕ) → n ≤ k → items_from n bound order holds marks k ≡ none
unfolding items_from find
items-done n bound order holds marks k h = first_done (free_at bound holds marks) (item_at n order) [] n k h

module _ (n bound : ℕ) (order holds marks : ℕ → ℕ) (k : ℕ) (l : k < n) where
  pub items-hit : free_at bound holds marks (item_at n order k) ≡ true → items_from n bound order holds marks k ≡ some (item_at n order k)
  unfolding items_from
  items-hit e = first-hit (free_at bound holds marks) (item_at n order) [] n k l e

  pub items-miss : free_at bound holds marks (item_at n order k) ≡ false → items_from n bound order holds marks k ≡ items_from n bound order holds marks (k + 1)
  unfolding items_from
  items-miss e = first-miss (free_at bound holds marks) (item_at n order) [] n k l e

-- By the numbers of a level's slots they give the rules' dummy, or lowest unread item
module _ (c : Client) (m : List ℕ) (q ℓ n base : ℕ) (order holds marks : List ℕ) (size : n ≡ slots ℓ) (start : base ≡ cell (shape_of c.shape) q ℓ 0) (level : ℓ < c.shape.l)
    (o : Numbers order n (λ i. (tables_of (shape_of c.shape) m).order (base + i))) (h : Numbers holds n (λ i. (tables_of (shape_of c.shape) m).holds (base + i))) (x : Numbers marks n (λ i. (tables_of (shape_of c.shape) m).mark (base + i))) where
  abbrev s : State
  s = state_of c m

  abbrev slot : ℕ → ℕ
  slot = item_at n (word_at order)

  abbrev is_dummy : ℕ → Bool
  is_dummy i = is_unread s q ℓ i && is_none (holder s q ℓ i)

  slot_is : (k : ℕ) → k < n → slot k ≡ s.order (cell s.shape q ℓ k)
  slot_is k l = sym (order_is c m q ℓ base k (slot k) start n size level (omega (arith, size, l)) (ap (fit n) (o.number k l)))

  test-is : (k : ℕ) → k < n → free_at (c.shape.n + 1) (word_at holds) (word_at marks) (slot k) ≡ is_dummy (s.order (cell s.shape q ℓ k))
  test-is k l =
      let i = slot k in
      let inside : i < n = fit-lt n (word_at order k) (omega arith) in
      let unread = unread-is c m q ℓ base i (fit 2 (word_at marks i)) start (ap (fit 2) (x.number i inside)) in
      let empty = dummy-is c m q ℓ base i (fit (c.shape.n + 1) (word_at holds i)) start (ap (fit (c.shape.n + 1)) (h.number i inside)) in
      rw (← slot_is k l, unread, empty) (and_comm (eqb (fit (c.shape.n + 1) (word_at holds i)) 0) (eqb (fit 2 (word_at marks i)) 1))

  items-dummy : items_from n (c.shape.n + 1) (word_at order) (word_at holds) (word_at marks) 0 ≡ dummy s q ℓ
  unfolding items_from dummy
  items-dummy =
      first-same (free_at (c.shape.n + 1) (word_at holds) (word_at marks)) is_dummy slot (λ k. s.order (cell s.shape q ℓ k)) n slot_is test-is
      ∙ rw size (first-all is_dummy (λ k. s.order (cell s.shape q ℓ k)) [] (slots ℓ) ∙ ap (find is_dummy) (append-nil _))

  -- with a bound of 1 every unread slot passes
  free-any : (i : ℕ) → free_at 1 (word_at holds) (word_at marks) i ≡ eqb (fit 2 (word_at marks i)) 1
  free-any i = let z : fit 1 (word_at holds i) ≡ 0 = omega (arith, fit-lt 1 (word_at holds i) (omega arith)) in rw (eq-eqb (fit 1 (word_at holds i)) 0 z)

  any-is : (k : ℕ) → k < n → free_at 1 (word_at holds) (word_at marks) (slot k) ≡ is_unread s q ℓ (s.order (cell s.shape q ℓ k))
  any-is k l =
      let i = slot k in
      let inside : i < n = fit-lt n (word_at order k) (omega arith) in
      rw (← slot_is k l) (free-any i ∙ sym (unread-is c m q ℓ base i (fit 2 (word_at marks i)) start (ap (fit 2) (x.number i inside))))

  items-lowest : items_from n 1 (word_at order) (word_at holds) (word_at marks) 0 ≡ lowest s q ℓ
  unfolding items_from lowest
  items-lowest =
      first-same (free_at 1 (word_at holds) (word_at marks)) (is_unread s q ℓ) slot (λ k. s.order (cell s.shape q ℓ k)) n slot_is any-is
      ∙ rw size (first-all (is_unread s q ℓ) (λ k. s.order (cell s.shape q ℓ k)) [] (slots ℓ) ∙ ap (find (is_unread s q ℓ)) (append-nil _))

  -- either, by the bound
  pub items-found : (any : Bool) → items_from n (if any then 1 else c.shape.n + 1) (word_at order) (word_at holds) (word_at marks) 0 ≡ (if any then lowest s q ℓ else dummy s q ℓ)
  items-found true = items-lowest
  items-found false = items-dummy
