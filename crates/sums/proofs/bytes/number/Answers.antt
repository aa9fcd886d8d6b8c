use Rattle.std.proofs.Common.{◌≡◌, [], ◌∷◌, ◌/◌, ◌%◌, ◌∙◌, arith}
use Rattle.rules.specs.Form.Numbers.{little}
use Rattle.lists.specs.Written.{same_text}
use Rattle.sums.proofs.bytes.number.Goals as goal

pub returns : goal.returns
unfolding little
returns c =
    let x = c.args.x in
    let low : x % 65536 % 256 ≡ x % 256 = omega arith in
    let high : x % 65536 / 256 % 256 ≡ x / 256 % 256 = omega arith in
    same_text (c.to_le_bytes.ensures ∙ (λ i. low i ∷ high i ∷ [])) c.copy.ensures
