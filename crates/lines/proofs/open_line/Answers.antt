use Rattle.std.proofs.Common.{sym, ◌∙◌}
use Rattle.lines.specs.Numbers.{exactly-is, numbers-small}
use Rattle.lines.specs.Told.{opened-six, opened-not}
use Rattle.lines.proofs.open_line.Goals as goal

pub returns-in_default : goal.returns-in_default
returns-in_default c = (λ b. sym (opened-not _ (sym c.in_default.is ∙ c.exactly.ensures)), tt)

pub returns : goal.returns
returns c =
    let e = sym c.in-Some.is ∙ c.exactly.ensures in
    let small = numbers-small _ _ (exactly-is _ _ _ e).0 in
    (λ b. sym (opened-six _ _ e), (small 0, small 1, small 2, small 3, small 4, small 5))
