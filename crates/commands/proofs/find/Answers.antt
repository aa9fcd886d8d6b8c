use mathlib.Core.Path.{ap, ◌∙◌, subst}
use Prim.Native.Nat.{◌+◌}
use native.Mathlib.Omega.{arith}
use lib.Pow.{pow_mono}
use Rattle.rules.proofs.Laws.Layout.{offset-lt}
use Rattle.client.specs.Kinds.{kind_number}
use Rattle.client.specs.View.{state_of}
use Rattle.commands.specs.Outstanding.{Outstanding}
use Rattle.commands.specs.Commands.{spot_command, spot-command, none-such}
use Rattle.commands.proofs.find.Goals as goal

pub returns-then-c-q : goal.returns-then-c-q
returns-then-c-q c = none-such c.args.c c.args.m.now _ _ _ _ c.requires.0 (λ p l. absurd (omega arith))

pub returns-then-levels-l : goal.returns-then-levels-l
returns-then-levels-l c = none-such c.args.c c.args.m.now _ _ _ _ c.requires.0 (λ p l. absurd (omega arith))

pub returns-then-n-i : goal.returns-then-n-i
returns-then-n-i c = none-such c.args.c c.args.m.now _ _ _ _ c.requires.0 (λ p l. omega arith)

pub search-requires : goal.search-requires
search-requires c =
    let a = c.args in
    omega (arith, pow_mono {i = 1} {j = a.l + 1} (omega arith), offset-lt a.c.shape.l a.l a.i (omega arith) (omega arith))

pub returns : goal.returns
returns c =
    let a = c.args in
    let k = spot_command a.c.shape.l (kind_number a.kind) a.q in
    subst (λ d. Outstanding d (state_of a.c a.m.now).outstanding c.search.result) (ap (λ n. k (n + a.i)) c.pow2-n.ensures.0 ∙ spot-command a.c.shape.l (kind_number a.kind) a.q a.l a.i (omega arith) (omega arith)) c.search.ensures
