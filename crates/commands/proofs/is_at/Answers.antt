use mathlib.Core.Path.{sym}
use native.Mathlib.Omega.{arith}
use Rattle.memory.specs.Fits.{shape_of}
use Rattle.client.specs.Kinds.{kind_number, kind-range, same-kind}
use Rattle.commands.specs.Commands.{as-stored, is-command}
use Rattle.commands.proofs.is_at.Goals as goal

pub returns-then-a-first_number : goal.returns-then-a-first_number
returns-then-a-first_number c =
    sym (as-stored (shape_of c.args.c.shape) (kind_number c.args.kind) c.args.q c.args.spot _ _ (kind-range c.args.kind).0 (kind-range c.args.kind).1 (omega arith) (omega arith) (omega arith) (omega arith) (rw (c.first_number.ensures, c.entry-a.ensures, c.entry.ensures) at c.if-a-first_number.true))

pub returns : goal.returns
returns c =
    rw (c.eq.ensures, same-kind, c.kind_of.ensures, c.fit-p.ensures, c.spot_at.ensures, c.entry-a.ensures) (sym (is-command (shape_of c.args.c.shape) (kind_number c.args.kind) c.args.q c.args.spot _ _ c.requires.3))
