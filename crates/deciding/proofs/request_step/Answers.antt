use mathlib.Core.Path.{sym, ◌∙◌}
use Rattle.client.specs.View.{state_of, view}
use Rattle.reading.specs.Slots.{Reads}
use Rattle.deciding.specs.Steps.{request-none, request-held, request-free}
use Rattle.deciding.proofs.request_step.Goals as goal
use Rattle.deciding.proofs.request_step.Goals.{After-get-q}

reads : (c : After-get-q) → let a = c.args in Reads a.c a.m.now c.get-q.result
unfolding state_of view
reads c = record { some = c.if-r-eq0.false; partition = c.get-q.ensures }

pub returns-then-r-eq0 : goal.returns-then-r-eq0
returns-then-r-eq0 c = let a = c.args in sym (request-none a.c a.m.now c.if-r-eq0.true)

pub returns-then-r-eq0-2 : goal.returns-then-r-eq0-2
returns-then-r-eq0-2 c =
    let a = c.args in
    sym (request-held a.c a.m.now c.if-r-eq0.false c.if-r-eq0-2.true)

pub read_partition-requires : goal.read_partition-requires
read_partition-requires c = (c.requires, reads c)

pub returns : goal.returns
returns c =
    let a = c.args in
    c.read_partition.ensures ∙ sym (request-free a.c a.m.now c.get-q.result (reads (goal.at.returns c).After-get-q) c.if-r-eq0-2.false)
