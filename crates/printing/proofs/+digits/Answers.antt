use Rattle.std.proofs.Common.{rules, arith, ap, sym, ◌∙◌, ℕ, ◌/◌, [], ◌∷◌, ◌++◌}
use Rattle.printing.specs.Text.{decimal}
use Rattle.printing.specs.Laws.{decimal-one, decimal-more}
use Rattle.printing.specs.Widths.{width-1, width-less}
use Rattle.lists.specs.Written.{followed, same_text}
use Rattle.printing.proofs.+digits.Goals as goal

pub put-requires : goal.put-requires
put-requires t c = let w = width-1 c.args.n (omega arith) in search rules

pub returns-then-n-lt10 : goal.returns-then-n-lt10
returns-then-n-lt10 t c =
    same_text
    (ap (λ (d : ℕ). d ∷ []) c.digit.ensures ∙ sym (decimal-one c.args.n c.if-n-lt10.true))
    c.put.ensures

pub digits-k-requires : goal.digits-k-requires
digits-k-requires t c = let w = width-less c.args.n (omega arith) (omega arith) in search rules

pub put-requires-2 : goal.put-requires-2
put-requires-2 t c =
    omega (arith, width-less c.args.n c.if-n-lt10.false (omega arith), c.digits-k.ensures.place, c.digits-k.ensures.size)

pub returns : goal.returns
returns t c =
    same_text
    (ap (λ (d : ℕ). decimal (c.args.n / 10) ++ (d ∷ [])) c.digit-2.ensures ∙ sym (decimal-more c.args.n c.if-n-lt10.false (omega arith)))
    (followed c.digits-k.ensures c.put-2.ensures)
