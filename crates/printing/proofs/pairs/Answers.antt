use Prim.Native.Nat.{◌<◌}
use native.Mathlib.Numerals.{add-one}
use native.Mathlib.Omega.{arith}
use lib.ListN.{length}
use lib.Seq.{take-suc}
use Rattle.printing.specs.Text.{hexadecimal}
use Rattle.printing.specs.Laws.{hexadecimal-more}
use Rattle.lists.specs.Written.{nothing, followed}
use Rattle.printing.proofs.pairs.Goals as goal

pub loop-b-init : goal.loop-b-init
unfolding hexadecimal
loop-b-init c = (omega arith, nothing _ _)

pub loop-b-preserved : goal.loop-b-preserved
loop-b-preserved c =
    let h : c.loop-b.b-index < length c.args.bytes.now = omega arith in (
      omega (arith, c.pair-k.ensures.place),
      rw (add-one, take-suc c.args.bytes.now c.loop-b.b-index 0, hexadecimal-more) (followed c.loop-b.invariant.1 c.pair-k.ensures),
    )
