use Rattle.std.proofs.Common.{sym, ◌∙◌}
use Rattle.lines.specs.Numbers.{exactly-is, numbers-small}
use Rattle.lines.specs.Told.{read_one, read-not}
use Rattle.lines.proofs.block_line.Goals as goal

pub returns-in_default : goal.returns-in_default
returns-in_default c = (λ b. sym (read-not _ (sym c.in_default.is ∙ c.exactly.ensures)), tt)

pub returns : goal.returns
returns c =
    let e = sym c.in-Some.is ∙ c.exactly.ensures in
    (λ b. sym (read_one _ _ e), numbers-small _ _ (exactly-is _ _ _ e).0 0)
