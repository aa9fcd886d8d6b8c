use mathlib.Core.Path.{◌≡◌, sym, ◌∙◌}
use mathlib.Core.Bool.{true}
use Rattle.rules.specs.Form.Sums.{summed}
use Rattle.loading.specs.Loading.{summed-whole}
use Rattle.exports.proofs.refuse_load.Goals as goal
use Rattle.exports.proofs.refuse_load.Goals.{Else-not-is_summed}

-- the sums are right
right : (c : Else-not-is_summed) → summed c.args.form.now ≡ true
right c = sym c.is_summed.ensures ∙ c.if-not-is_summed.false

pub is_form-requires : goal.is_form-requires
is_form-requires c = summed-whole _ (right c)
