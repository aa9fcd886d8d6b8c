use mathlib.Core.Path.{ap, ◌∙◌}
use Prim.Native.Nat.{◌+◌, ◌-◌, ◌*◌}
use Rattle.rules.specs.Form.Numbers.{form_of, slot_width}
use Rattle.rules.specs.Form.Sums.{block_count}
use Rattle.rules.specs.Form.Longest.{longest_payload, longest}
use Rattle.saving.proofs.longest.Goals as goal

pub returns : goal.returns
unfolding longest longest_payload slot_width form_of
returns c =
    let h = c.args.h in
    c.bytes_of.ensures ∙ ap (λ x. block_count (143 + 2 * h.p + (7 + h.b) * h.n + 2 * (h.p * (x - 2))) * 512) c.pow2.ensures.0
