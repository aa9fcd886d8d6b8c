use Rattle.std.proofs.Common.{refl, sym, ap, ◌∙◌, arith, drop}
use Rattle.lines.specs.Lines.{also, numbers as numbers_of}
use Rattle.lines.specs.Fields.{after}
use Rattle.lines.specs.Numbers.{number-small}
use Rattle.lines.specs.Stored.{next-field}
use Rattle.lines.proofs.next.Goals as goal

pub returns-in_err-x-clause-none : goal.returns-in_err-x-clause-none
unfolding also
returns-in_err-x-clause-none c =
    rw c.from_residual.ensures
    (λ h. next-field _ _ c.end-e.result h c.end-e.ensures ∙ rw (sym c.number.ensures ∙ c.in_err-x.was) refl)

pub returns-clause-found : goal.returns-clause-found
returns-clause-found c =
    let n = sym c.number.ensures ∙ c.in_ok-x.was in
    record {
      more = omega (arith, c.end-e.ensures.from);
      within = c.end-e.ensures.end;
      small = number-small _ _ n;
      says = next-field _ _ c.end-e.result (omega arith) c.end-e.ensures ∙ ap (λ o. also o (numbers_of (after (drop c.end-e.result c.args.line.now)))) n;
    }
