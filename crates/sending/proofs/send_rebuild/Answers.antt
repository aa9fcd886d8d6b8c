use mathlib.Core.Path.{◌≡◌, refl, ap}
use native.Mathlib.Omega.{arith}
use lib.ListN.{length}
use Rattle.rules.specs.State.{cmd}
use Rattle.rules.specs.Jobs.{levels_of}
use Rattle.rules.specs.Turn.{rebuild, command, step_bounds}
use Rattle.rules.specs.Questions.{sends}
use Rattle.client.specs.View.{state_of}
use Rattle.sending.specs.Plans.{room-yes}
use Rattle.sending.specs.Sent.{write-performs, rebuild-sent}
use Rattle.sending.proofs.send_rebuild.Goals as goal
use Rattle.sending.proofs.send_rebuild.Goals.{After-send-e}

sent-length : (c : After-send-e) → length c.send-e.new.m ≡ length c.args.m.now
sent-length c = omega arith

pub returns : goal.returns
unfolding command sends step_bounds
returns c =
    let o = c.put_bytes in
    let s = c.send-e in
    let k = c.write_levels-d in
    let r = c.args in
    let p = c.requires in
    let S = state_of r.c r.m.now in
    let long : length r.buffer.now ≡ r.c.shape.b = p.6 in
    rw c.sent.ensures (write-performs r.c r.m.now r.tape.now r.buffer.now (rebuild r.q (levels_of S r.q)) p.0 r.q r.p.top 0 (ap (λ t. cmd 2 r.q t 0) p.1.head) refl _ _ _ r.words
    (room-yes S r.q r.list.now p.2 p.3) long p.4 p.5 (sent-length (goal.at.returns c).After-send-e)
    (rebuild-sent r.c k.result s.result r.m.now k.new.m s.new.m r.q r.p.top (levels_of S r.q) _ p.1.head k.ensures.0 k.ensures.3 k.ensures.2 s.ensures.0 s.ensures.1) (omega arith) o.ensures)
