use mathlib.Core.Path.{◌≡◌, sym, ◌∙◌}
use native.Mathlib.Omega.{arith}
use lib.ListN.{get_or}
use borrow.Author.Tests.{leb-true, leb-false}
use Rattle.tape.specs.Tape.{words_of, length-words, word-is}
use Rattle.tape.specs.Settled.{passing-more, passing-settled}
use Rattle.tape.proofs.settle.Goals as goal
use Rattle.tape.proofs.settle.Goals.{After-word}

-- the word that was looked at
looked : (c : After-word) → let a = c.args in c.word.result ≡ get_or (words_of a.t.now) c.loop-i.i 0
looked c =
    let a = c.args in
    let l = c.loop-i in
    c.word.ensures.0 ∙ sym (word-is a.t.now l.i (omega (arith, length-words a.t.now)))

pub word-requires : goal.word-requires
word-requires c =
    let t = c.args.t.now in
    omega (arith, length-words t)

pub returns-then-not-passed : goal.returns-then-not-passed
returns-then-not-passed c =
    let l = c.loop-i in
    passing-settled l.invariant (omega arith) (rw (← looked (goal.at.returns-then-not-passed c).After-word) (leb-false _ _ (sym c.passed.ensures ∙ c.if-not-passed.true)))

pub loop-i-preserved : goal.loop-i-preserved
loop-i-preserved c =
    let l = c.loop-i in
    passing-more l.invariant (omega arith) (rw (← looked (goal.at.loop-i-preserved c).After-word) (leb-true _ _ (sym c.passed.ensures ∙ c.if-not-passed.false)))
