use native.Mathlib.Omega.{arith}
use Rattle.rules.specs.Form.Numbers.{little, each, form_of}
use Rattle.rules.specs.Form.Payload.{shape_numbers}
use Rattle.lists.specs.Written.{followed}
use Rattle.saving.proofs.payload.head.Goals as goal

pub number-p-requires : goal.number-p-requires
unfolding little
number-p-requires c = omega arith

pub number-l-requires : goal.number-l-requires
unfolding little
number-l-requires c = omega arith

pub number-b-requires : goal.number-b-requires
unfolding little
number-b-requires c = omega arith

pub number-e-requires : goal.number-e-requires
unfolding little
number-e-requires c = omega arith

pub number-w-requires : goal.number-w-requires
unfolding little
number-w-requires c = omega arith

pub number-requires : goal.number-requires
unfolding little
number-requires c = omega arith

pub returns : goal.returns
unfolding little each shape_numbers form_of
returns c = followed (followed (followed (followed (followed (followed c.byte-n.ensures c.number-p.ensures) c.number-l.ensures) c.number-b.ensures) c.number-e.ensures) c.number-w.ensures) c.number.ensures
