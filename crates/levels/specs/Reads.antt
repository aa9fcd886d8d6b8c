-- The count of the slots of a level that have been read.
use Rattle.std.specs.Prelude.{◌≡◌, refl, not, List, ℕ, zero, suc, ◌+◌, ◌-◌, ◌<◌, eqb}
use Rattle.std.proofs.Common.{ap, ◌∙◌, add-one, arith}
use mir.Val.{bool_byte}
use Rattle.lists.specs.Totals.{total}
use Rattle.rules.specs.Shape.{slots, cell}
use Rattle.rules.specs.Blocks.{reads_of}
use Rattle.memory.specs.Tables.{tables_of}
use Rattle.memory.specs.Fits.{shape_of, fit, fit-lt}
use Rattle.client.specs.declared.Client.{Client}
use Rattle.client.specs.View.{view, state_of}
use Rattle.rules.proofs.Laws.Layout.{cell-from}

-- of the first j slots of level ℓ of q
unfoldable pub reads_to : Client → List ℕ → ℕ → ℕ → ℕ → ℕ
reads_to c m q ℓ j = total j (λ i. 1 - (state_of c m).mark (cell (shape_of c.shape) q ℓ i))

pub reads_none : (c : Client) (m : List ℕ) (q ℓ : ℕ) → reads_to c m q ℓ 0 ≡ 0
unfolding reads_to total
reads_none c m q ℓ = refl

pub reads_all : (c : Client) (m : List ℕ) (q ℓ n : ℕ) → n ≡ slots ℓ → reads_to c m q ℓ n ≡ reads_of (shape_of c.shape) (state_of c m).mark q ℓ
unfolding reads_to reads_of
reads_all c m q ℓ n e = rw e

-- a mark is 0 or 1
unread-byte : (x : ℕ) → x < 2 → 1 - x ≡ bool_byte (not (eqb x 1))
unread-byte zero l = refl
unread-byte (suc zero) l = refl
unread-byte (suc (suc x)) l = absurd (omega arith)

-- slot j has the mark x
pub reads-step : (c : Client) (m : List ℕ) (q ℓ base j x : ℕ) → base ≡ cell (shape_of c.shape) q ℓ 0 → x ≡ fit 2 ((tables_of (shape_of c.shape) m).mark (base + j))
    → reads_to c m q ℓ (j + 1) ≡ reads_to c m q ℓ j + bool_byte (not (eqb x 1))
unfolding reads_to total state_of view
reads-step c m q ℓ base j x start e =
    let here : base + j ≡ cell (shape_of c.shape) q ℓ j = ap (λ y. y + j) start ∙ cell-from (shape_of c.shape) q ℓ j in
    let small : x < 2 = rw e (fit-lt 2 ((tables_of (shape_of c.shape) m).mark (base + j)) (omega arith)) in
    rw (add-one, ← here, ← e, unread-byte x small)
