use mathlib.Core.Path.{◌≡◌, ap}
use native.Mathlib.Omega.{arith}
use Rattle.rules.specs.Ranges.{bytes_of}
use Rattle.client.specs.Kinds.{kind_number}
use Rattle.requesting.specs.Requesting.{kept_read}
use Rattle.requesting.proofs.keep.Goals as goal

pub returns-in-Read : goal.returns-in-Read
returns-in-Read c =
    let read : kind_number c.args.kind ≡ 1 = ap kind_number c.in-Read.is in
    kept_read c.args.h (kind_number c.args.kind) c.args.contents.now _ (λ e. omega (arith, e, read))

pub store-requires : goal.store-requires
unfolding bytes_of
store-requires c =
    let l = c.requires.1 in
    (c.requires.0, omega arith, rw c.in-Write.is at l)
