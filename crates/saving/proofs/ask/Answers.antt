use mathlib.Core.Path.{sym, ◌∙◌}
use Rattle.ready.specs.Usable.{usable}
use Rattle.saving.proofs.ask.Goals as goal

pub longest-requires : goal.longest-requires
longest-requires c =
    let a = c.args in
    let r = (usable a.c a.m.now (sym c.is_ready.ensures ∙ c.if-not-is_ready.false)).room in
    (r.blocks, r.partitions, r.levels, r.bytes, r.stride)
