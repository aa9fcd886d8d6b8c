-- The count of the blocks that a partition stores.
use Rattle.std.specs.Prelude.{◌≡◌, refl, Bool, true, false, not, List, ℕ, zero, suc, ◌+◌, ◌-◌, ◌*◌, ◌≤◌, ◌<◌, ltb, eqb}
use Rattle.std.proofs.Common.{sym, ap, ◌∙◌, arith, lt-ltb, ne_eqb}
use mir.Val.{bool_byte}
use Rattle.rules.specs.Shape.{Shape, slots, cell}
use Rattle.rules.specs.State.{State}
use Rattle.rules.specs.Blocks.{entries, blocks_in}
use Rattle.memory.specs.Tables.{tables_of}
use Rattle.memory.specs.Fits.{shape_of, fit}
use Rattle.client.specs.declared.Client.{Client}
use Rattle.client.specs.View.{state_of}
use Rattle.levels.specs.Walks.{tally, tally-step, tally-done, tally-all}
use Rattle.rules.proofs.Laws.Layout.{stride-le}
use Rattle.levels.specs.Slots.{holds-is}

abbrev pub slot_holds : State → ℕ → ℕ → ℕ
slot_holds s q j = s.holds (cell s.shape q 0 j)

some-not-zero : (x : ℕ) → ltb 0 x ≡ not (eqb x 0)
some-not-zero zero = refl
some-not-zero (suc x) = lt-ltb 0 (suc x) (omega arith) ∙ sym (ap not (ne_eqb (suc x) 0 (λ e. omega arith)))

-- how many of the slots from j up to n hold a block
unfoldable pub stored_from : State → ℕ → ℕ → ℕ → ℕ
stored_from s q n j = tally (ltb 0) (slot_holds s q) n j

pub stored-all : (s : State) (q L n : ℕ) → n ≡ slots L - 2 → stored_from s q n 0 ≡ blocks_in s q L
unfolding stored_from blocks_in entries
stored-all s q L n e = rw e (tally-all (ltb 0) (slot_holds s q) (slots L - 2))

pub stored-done : (s : State) (q n j : ℕ) → n ≤ j → stored_from s q n j ≡ 0
unfolding stored_from
stored-done s q n j h = tally-done (ltb 0) (slot_holds s q) n j h

-- slot j holds x
pub stored-step : (c : Client) (m : List ℕ) (q n base j x : ℕ) → base ≡ cell (shape_of c.shape) q 0 0 → j < n → x ≡ fit (c.shape.n + 1) ((tables_of (shape_of c.shape) m).holds (base + j))
    → stored_from (state_of c m) q n j ≡ bool_byte (not (eqb x 0)) + stored_from (state_of c m) q n (j + 1)
unfolding stored_from
stored-step c m q n base j x e h holds = tally-step (ltb 0) (slot_holds (state_of c m) q) n j h ∙ rw (holds-is c m q 0 base j x e holds, some-not-zero)

pub byte_le : (t : Bool) → bool_byte t ≤ 1
byte_le true = omega arith
byte_le false = omega arith

-- the cells of a partition's slots are within the tables
pub stored-lt : (h : Shape) (q base j : ℕ) → base ≡ cell h q 0 0 → q < h.P → j < slots h.L - 2 → base + j < h.P * slots h.L
unfolding cell
stored-lt h q base j e hq hj = omega (arith, stride-le h.P q (slots h.L) hq)
