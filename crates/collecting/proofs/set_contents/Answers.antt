use borrow.Author.Tests.{eq-eqb, ne_eqb}
use Rattle.collecting.specs.Collecting.{bytes-stand}
use Rattle.collecting.proofs.set_contents.Goals as goal

pub returns-then-c-eq-WRITE : goal.returns-then-c-eq-WRITE
returns-then-c-eq-WRITE c =
    let a = c.args in
    rw (eq-eqb a.c.request.kind 2 c.if-c-eq-WRITE.true) (bytes-stand a.c a.m.now _ a.c.request.block _ c.requires.0.asked.block c.move_block.ensures)

pub returns : goal.returns
returns c =
    let a = c.args in
    rw (ne_eqb a.c.request.kind 2 c.if-c-eq-WRITE.false) (bytes-stand a.c a.m.now _ a.c.request.block _ c.requires.0.asked.block c.store.ensures)
