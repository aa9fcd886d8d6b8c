use Rattle.std.proofs.Common.{refl, sym, ◌∙◌, arith}
use Rattle.lines.specs.Lines.{pair}
use Rattle.lines.specs.Numbers.{hex-small}
use Rattle.lines.proofs.pair.Goals as goal

pub returns-in_err-h : goal.returns-in_err-h
unfolding pair
returns-in_err-h c = rw (sym c.hex.ensures ∙ c.in_err-h.was) c.from_residual.ensures

pub returns-in_err-l : goal.returns-in_err-l
unfolding pair
returns-in_err-l c = rw (sym c.hex.ensures ∙ c.in_ok-h.was, sym c.hex-2.ensures ∙ c.in_err-l.was) c.from_residual-in_err-l.ensures

pub overflow_mul-result : goal.overflow_mul-result
overflow_mul-result c = omega (arith, hex-small _ _ (sym c.hex.ensures ∙ c.in_ok-h.was), hex-small _ _ (sym c.hex-2.ensures ∙ c.in_ok-l.was))

pub overflow_add-result : goal.overflow_add-result
overflow_add-result c = omega (arith, hex-small _ _ (sym c.hex.ensures ∙ c.in_ok-h.was), hex-small _ _ (sym c.hex-2.ensures ∙ c.in_ok-l.was))

pub returns : goal.returns
unfolding pair
returns c = rw (sym c.hex.ensures ∙ c.in_ok-h.was, sym c.hex-2.ensures ∙ c.in_ok-l.was) refl
