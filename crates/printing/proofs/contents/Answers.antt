use native.Mathlib.Omega.{arith}
use Rattle.printing.specs.Text.{contents_text, further}
use Rattle.printing.specs.Laws.{decimal-0, hexadecimal-length}
use Rattle.lists.specs.Written.{followed}
use Rattle.printing.proofs.contents.Goals as goal

pub put-requires : goal.put-requires
put-requires c =
    omega (arith, hexadecimal-length c.args.bytes.now, c.pairs-end.ensures.place, c.pairs-end.ensures.size)

pub returns : goal.returns
unfolding contents_text further
returns c =
    rw decimal-0
    (followed c.put-zero.ensures
    (followed c.put-gap.ensures
    (followed c.pairs-end.ensures c.put.ensures)))
