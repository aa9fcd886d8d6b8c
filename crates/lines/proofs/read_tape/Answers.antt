use Rattle.std.proofs.Common.{◌≡◌, ◌/◌, length, drop, sym, ap, ◌∙◌, arith}
use Rattle.lines.specs.Lines.{up_to, numbers as numbers_of, most_words}
use Rattle.lines.specs.Fields.{after}
use Rattle.lines.specs.Told.{tape-by, tape-none}
use Rattle.lines.proofs.read_tape.Goals as goal

pub returns-in-84-clause-words : goal.returns-in-84-clause-words
returns-in-84-clause-words c =
    let a = c.args in
    let e : length a.tape.now / 2 ≡ most_words = omega arith in
    c.numbers.ensures.numbers ∙ ap (λ m. up_to m (numbers_of (after (drop 1 a.line.now)))) e ∙ sym (tape-by _ _ c.letter.ensures c.in-84.is)

pub returns-in_default-clause-words : goal.returns-in_default-clause-words
returns-in_default-clause-words c = sym (tape-none _ _ c.letter.ensures (λ e. omega arith))
