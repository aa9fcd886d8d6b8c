use contract.BorrowLft.{⊑_meet, ⊑_static}
use mathlib.Core.Path.{◌≡◌, refl, ap, sym, ◌∙◌, subst}
use mathlib.Core.List.{List}
use Prim.Native.Nat.{ℕ, ◌+◌, ◌-◌, ◌*◌, ◌<◌, ◌≤◌}
use mir.Val.{Fits}
use mir.Syntax.{w64}
use native.Mathlib.Omega.{arith}
use lib.ListN.{length}
use Rattle.std.proofs.Common.{of_calls}
use Rattle.lists.specs.Search.{below}
use Rattle.rules.specs.Shape.{slots}
use Rattle.rules.specs.Form.Numbers.{little, each}
use Rattle.lists.specs.Written.{same_text}
use Rattle.memory.specs.Tables.{tables_of}
use Rattle.memory.specs.Fits.{shape_of, fit}
use Rattle.client.specs.View.{state_of}
use Rattle.levels.specs.Slots.{cell-lt}
use Rattle.saving.specs.Parts.{mark_in, each-same}
use Rattle.saving.specs.Entries.{mark-byte}
use Rattle.saving.proofs.payload.read_marks.Goals as goal
use Rattle.saving.proofs.payload.read_marks.Goals.{After-cell-base}

-- the bytes that the table has are those of the slots
put : After-cell-base → ℕ → List ℕ
put c i = little 1 (1 - fit 2 ((tables_of (shape_of c.args.c.shape) c.args.m.now).mark (c.cell-base.result + i)))

same : (c : After-cell-base) → let a = c.args in each (put c) (below c.pow2-n.result) ≡ each (mark_in (state_of a.c a.m.now) a.q a.l) (below (slots a.l))
unfolding put
same c =
    let a = c.args in
    let g = mark_in (state_of a.c a.m.now) a.q a.l in
    each-same (put c) g c.pow2-n.result (λ i h. mark-byte a.c a.m.now a.q a.l c.cell-base.result i _ c.cell-base.ensures.0 refl)
    ∙ ap (λ n. each g (below n)) c.pow2-n.ensures.0

pub put_each-requires : goal.put_each-requires
unfolding put little
put_each-requires c = λ ks w.
    let a = c.args in
    let k = (goal.at.put_each-requires c).After-cell-base in (
      search (⊑_meet, ⊑_static, w.0, w.1.0, w.1.1.0) depth 12,
      (
        record {
          may = λ i b k l r.
              let low : c.cell-base.result + i < a.c.shape.p * slots a.c.shape.l = cell-lt (shape_of a.c.shape) a.q a.l c.cell-base.result i c.cell-base.ensures.0 c.requires.1 c.requires.2 (omega (arith, c.pow2-n.ensures.0)) in
              let fits : Fits w64 (c.cell-base.result + i) = omega (arith, c.requires.0.cells) in
              search (of_calls, c.requires.0, low, fits, r);
          does = λ i b k l r q d e. search (of_calls, e);
        },
        subst (λ xs. a.at + length xs ≤ length a.buffer.now) (sym (same k)) c.requires.3,
      ),
    )

pub returns : goal.returns
unfolding put
returns c = same_text (same (goal.at.returns c).After-cell-base) c.put_each.ensures
