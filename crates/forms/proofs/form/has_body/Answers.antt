use Rattle.lists.specs.Search.{below}
use Rattle.rules.specs.Form.Numbers.{each}
use Rattle.forms.specs.Asked.{met_in, behind_levels}
use Rattle.forms.specs.Blocks.{counter_in}
use Rattle.forms.specs.Passes.{passed, keys_of}
use mathlib.Core.Path.{◌≡◌, ap, sym, ◌∙◌}
use native.Mathlib.Omega.{arith}
use Rattle.rules.specs.Form.Sums.{out_of_blocks}
use Rattle.memory.specs.Fits.{shape_of}
use Rattle.forms.specs.Asked.{records_fit}
use Rattle.forms.specs.Answers.{body-placed, body-many, body-level, body_is}
use Rattle.forms.proofs.form.has_body.Goals as goal
use Rattle.forms.proofs.form.has_body.Goals.{After-behind-2}

pub returns-then-not-are_placed : goal.returns-then-not-are_placed
returns-then-not-are_placed c =
    let a = c.args in
    sym (body-placed (out_of_blocks a.form.bytes.now) (shape_of a.h) a.from (sym c.are_placed.ensures.0 ∙ c.if-not-are_placed.true))

pub returns-then-h-n : goal.returns-then-h-n
returns-then-h-n c =
    let a = c.args in
    sym (body-many (out_of_blocks a.form.bytes.now) (shape_of a.h) a.from (sym c.are_placed.ensures.0 ∙ c.if-not-are_placed.false) (omega (arith, c.waiting-n.ensures.0)))

-- the levels are asked with the blocks marked, from behind these on
levels : (c : After-behind-2) → c.behind-2.result ≡ behind_levels (out_of_blocks c.args.form.bytes.now) (shape_of c.args.h) c.args.from
levels c =
    let a = c.args in
    let p = out_of_blocks a.form.bytes.now in
    let h = shape_of a.h in
    let ks = each (keys_of a.h.l (counter_in p a.h.p)) (below a.h.p) in
    c.behind-2.ensures.0 ∙ ap (λ s. passed h p s ks c.behind.result) (c.are_placed.ensures.1 c.if-not-are_placed.false) ∙ ap (passed h p (met_in p h a.from) ks) c.behind.ensures.0

pub returns-in_default : goal.returns-in_default
returns-in_default c =
    let a = c.args in
    sym (body-level (out_of_blocks a.form.bytes.now) (shape_of a.h) a.from (sym c.are_placed.ensures.0 ∙ c.if-not-are_placed.false) (omega (arith, c.waiting-n.ensures.0)) (sym (levels (goal.at.returns-in_default c).After-behind-2) ∙ c.in_default.is))

pub returns : goal.returns
returns c =
    let a = c.args in
    let p = out_of_blocks a.form.bytes.now in
    c.has_records.ensures ∙ ap (λ k. records_fit p a.h.n a.h.b a.from k c.in-Some.at) c.waiting-n.ensures.0
    ∙ sym (body_is p (shape_of a.h) a.from (sym c.are_placed.ensures.0 ∙ c.if-not-are_placed.false) (omega (arith, c.waiting-n.ensures.0)) c.in-Some.at (sym (levels (goal.at.returns c).After-behind-2) ∙ c.in-Some.is))
