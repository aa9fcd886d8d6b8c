use Rattle.std.proofs.Common.{◌≡◌, ◌-◌, ◌*◌, ◌/◌, length, drop, sym, ap, ◌∙◌, arith}
use Rattle.rules.specs.Form.Sums.{sums_right}
use Rattle.sums.specs.Sums.{sums-more, sums-wrong, sums-all, summed-none, summed-odd, summed-is}
use Rattle.sums.proofs.is_summed.Goals as goal

pub returns-then-len-eq0 : goal.returns-then-len-eq0
returns-then-len-eq0 c = sym (summed-none c.args.form.now (omega arith))

pub returns-then-len-ne0 : goal.returns-then-len-ne0
returns-then-len-ne0 c = sym (summed-odd c.args.form.now (λ e. omega arith))

pub loop-k-init : goal.loop-k-init
loop-k-init c =
    let f = c.args.form.now in
    let e : length f / 512 - 0 ≡ length f / 512 = omega arith in
    ap (λ m. sums_right m 0 f) e ∙ sym (summed-is f (λ e. omega arith) (omega arith))

pub returns-then-not-is_block : goal.returns-then-not-is_block
returns-then-not-is_block c =
    let l = c.loop-k in
    let f = c.args.form.now in
    sym (sym l.invariant ∙ sums-wrong (length f / 512) l.k f (omega arith) (sym c.is_block.ensures ∙ c.if-not-is_block.true))

pub loop-k-preserved : goal.loop-k-preserved
loop-k-preserved c =
    let l = c.loop-k in
    let f = c.args.form.now in
    sums-more (length f / 512) l.k f (omega arith) (sym c.is_block.ensures ∙ c.if-not-is_block.false) ∙ l.invariant

pub returns : goal.returns
returns c =
    let l = c.loop-k in
    let f = c.args.form.now in
    sym (sym l.invariant ∙ sums-all (length f / 512) l.k (drop (l.k * 512) f) (omega arith))
