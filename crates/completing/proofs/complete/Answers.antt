use mathlib.Core.Path.{◌≡◌, ap, ◌∙◌, subst}
use Prim.Native.Nat.{◌-◌}
use native.Mathlib.Omega.{arith}
use Rattle.rules.specs.Setters.{set_outstanding}
use Rattle.client.specs.declared.Client.{Client}
use Rattle.client.specs.Kinds.{kind_number}
use Rattle.client.specs.Moves.{with_request, with_out, Stands}
use Rattle.client.specs.Rows.{drop_at}
use Rattle.client.specs.View.{state_of}
use Rattle.completing.specs.Awaited.{lessened}
use Rattle.completing.specs.Completing.{read_done, write_done}
use Rattle.completing.proofs.complete.Goals as goal
use Rattle.completing.proofs.complete.Goals.{After-complete-d}

-- the client once the command has left the list, and what it stands for
client-is : (c : After-complete-d) → let a = c.args in c.complete-d.result ≡ with_out (a.c.out - 1) (with_request (lessened a.j a.c.request) a.c)
client-is c = c.complete-d.ensures.0 ∙ ap (λ (x : Client). with_out (x.out - 1) x) c.await_less.ensures

stands : (c : After-complete-d) → let a = c.args in let x = with_request (lessened a.j a.c.request) a.c in
    Stands c.complete-d.result a.m.now c.complete-d.new.m (set_outstanding (drop_at a.j (state_of x a.m.now).outstanding) (state_of x a.m.now))
stands c =
    let a = c.args in
    subst (λ x. Stands c.complete-d.result a.m.now c.complete-d.new.m (set_outstanding (drop_at a.j (state_of x a.m.now).outstanding) (state_of x a.m.now))) c.await_less.ensures c.complete-d.ensures.1

pub returns-in-Read : goal.returns-in-Read
returns-in-Read c =
    let a = c.args in
    (ap (λ (x : Client). x.request) (client-is (goal.at.returns-in-Read c).After-complete-d), read_done a.c c.complete-d.result a.m.now _ _ a.bytes.now a.j c.requires (stands (goal.at.returns-in-Read c).After-complete-d) _ (ap kind_number c.in-Read.is) c.store_read.ensures)

pub returns-in-Write : goal.returns-in-Write
returns-in-Write c =
    let f = c.finish_job in
    let a = c.args in
    (f.ensures.2 ∙ ap (λ (x : Client). x.request) (client-is (goal.at.returns-in-Write c).After-complete-d), write_done a.c c.complete-d.result a.m.now _ _ a.bytes.now a.j c.requires (stands (goal.at.returns-in-Write c).After-complete-d) _ _ f.ensures.0 (λ e. omega (arith, e, ap kind_number c.in-Write.is)) f.ensures.1)
