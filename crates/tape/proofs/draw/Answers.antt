use mathlib.Core.Path.{ap, sym, ◌∙◌}
use Prim.Native.Nat.{◌%◌}
use native.Mathlib.Nat.{mod-lt}
use native.Mathlib.Omega.{arith}
use Rattle.tape.specs.Tape.{length-words, word-is}
use Rattle.tape.proofs.draw.Goals as goal

pub word-requires : goal.word-requires
word-requires c = omega (arith, length-words c.args.t.now)

pub returns : goal.returns
returns c =
    let w = c.word.ensures.0 ∙ sym (word-is c.args.t.now c.args.k (omega (arith, length-words c.args.t.now))) in
    (ap (λ x. x % c.args.bound) w, mod-lt c.word.result c.requires.1)
