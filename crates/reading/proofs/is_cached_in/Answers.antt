use mathlib.Core.Path.{ap, ◌∙◌}
use mathlib.Core.Bool.{not, ◌&&◌}
use Rattle.client.specs.View.{state_of}
use Rattle.reading.specs.Slots.{cached-is}
use Rattle.reading.proofs.is_cached_in.Goals as goal

pub returns : goal.returns
returns c =
    ap (λ u. not u && c.args.marked) c.is_unread.ensures ∙ cached-is (state_of c.args.c c.args.m.now) c.args.q c.args.l c.args.marked _ c.requires.1
