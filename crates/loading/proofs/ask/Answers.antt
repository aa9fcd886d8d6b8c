use mathlib.Core.Path.{◌≡◌, sym, ◌∙◌}
use mathlib.Core.Bool.{true}
use native.Mathlib.Omega.{arith}
use Rattle.std.proofs.lemmas.Grind.{common_steps}
use Rattle.rules.specs.Form.Loading.{loads}
use Rattle.rules.specs.Form.Sums.{summed}
use Rattle.rules.specs.Questions.{first_no}
use Rattle.forms.specs.Asked.{loads-asked}
use Rattle.loading.specs.Loading.{load_number, summed-whole, loaded-shape}
use Rattle.loading.proofs.ask.Goals as goal
use Rattle.loading.proofs.ask.Goals.{Else-not-is_form, Else-not-is_summed}

summed-yes : (c : Else-not-is_summed) → summed c.args.form.now ≡ true
summed-yes c = sym c.is_summed.ensures ∙ c.if-not-is_summed.false

loads-yes : (c : Else-not-is_form) → loads c.args.form.now ≡ true
loads-yes c = sym c.is_form.ensures ∙ c.if-not-is_form.false

pub is_form-requires : goal.is_form-requires
is_form-requires c = summed-whole _ (summed-yes c)

pub shape-requires : goal.shape-requires
shape-requires c = summed-whole _ (summed-yes (goal.at.shape-requires c).Else-not-is_summed)

pub needed-requires : goal.needed-requires
needed-requires c = rw c.shape.ensures (loads-asked _ (loads-yes (goal.at.needed-requires c).Else-not-is_form)).shape

pub returns-then-len-needed : goal.returns-then-len-needed
unfolding load_number first_no
returns-then-len-needed c = grind (arith, common_steps, loaded-shape c.args.form.now (loads-yes (goal.at.returns-then-len-needed c).Else-not-is_form))

pub returns : goal.returns
unfolding load_number first_no
returns c = grind (arith, common_steps, loaded-shape c.args.form.now (loads-yes (goal.at.returns c).Else-not-is_form))
