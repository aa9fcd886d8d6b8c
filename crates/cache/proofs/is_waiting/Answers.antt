use mathlib.Core.Path.{◌∙◌}
use Rattle.cache.specs.Waiting.{waits-is}
use Rattle.cache.proofs.is_waiting.Goals as goal

pub returns : goal.returns
returns c = let a = c.args in c.is_some.ensures ∙ waits-is a.c a.m.now a.b c.place.result c.place.ensures
