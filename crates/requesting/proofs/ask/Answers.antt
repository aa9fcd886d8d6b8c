use mathlib.Core.Path.{refl, sym, ◌∙◌}
use native.Mathlib.Omega.{arith}
use borrow.Author.Tests.{eq-eqb, ne_eqb, le-ltb}
use Rattle.rules.specs.Questions.{first_no}
use Rattle.client.specs.Kinds.{named_kind}
use Rattle.ready.specs.Usable.{usable}
use Rattle.requesting.specs.Requesting.{request_number}
use Rattle.requesting.proofs.ask.Goals as goal

pub returns-then-c-ne0 : goal.returns-then-c-ne0
unfolding request_number first_no
returns-then-c-ne0 c =
    rw (sym c.is_ready.ensures ∙ c.if-not-is_ready.false, named_kind c.args.kind, ne_eqb c.args.c.request.kind 0 c.if-c-ne0.true) refl

pub returns-then-c-block : goal.returns-then-c-block
unfolding request_number first_no
returns-then-c-block c =
    rw (sym c.is_ready.ensures ∙ c.if-not-is_ready.false, named_kind c.args.kind, eq-eqb c.args.c.request.kind 0 c.if-c-ne0.false, le-ltb c.args.block c.args.c.shape.n c.if-c-block.true) refl

pub has_room-requires : goal.has_room-requires
has_room-requires c =
    let a = c.args in
    let u = usable a.c a.m.now (sym c.is_ready.ensures ∙ c.if-not-is_ready.false) in
    (u.room, omega (arith, u.counts.waiting, u.places))
