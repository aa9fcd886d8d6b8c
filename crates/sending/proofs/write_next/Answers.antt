use mathlib.Core.Path.{◌≡◌, refl}
use mathlib.Core.List.{[]}
use Rattle.rules.specs.Turn.{write_next, command, step_bounds}
use Rattle.rules.specs.Questions.{sends, possible}
use Rattle.rules.specs.Draws.{draws}
use Rattle.rules.specs.Run.{taken_of}
use Rattle.lists.specs.Search.{is_none}
use Rattle.sending.specs.Sent.{refuses, other-buffer, write-performs, write-sent}
use native.Mathlib.Omega.{arith}
use lib.ListN.{length}
use Rattle.sending.proofs.write_next.Goals as goal
use Rattle.sending.proofs.write_next.Goals.{After-send-e}

sent-length : (c : After-send-e) → length c.send-e.new.m ≡ length c.args.m.now
sent-length c = omega arith

pub returns-then-buffer-c : goal.returns-then-buffer-c
unfolding command sends
returns-then-buffer-c c =
    let r = c.args in
    λ tape. refuses r.c r.m.now tape r.buffer.now (write_next r.q r.t r.i) c.requires 15 (other-buffer r.c r.m.now tape r.buffer.now (write_next r.q r.t r.i) c.requires r.q r.t r.i refl refl c.if-buffer-c.true) (λ e. omega arith)

pub returns : goal.returns
unfolding command sends possible step_bounds draws is_none taken_of
returns c =
    let o = c.put_bytes in
    let s = c.send-e in
    let p = c.with_sent-d in
    let r = c.args in
    rw c.sent.ensures (λ tape. write-performs r.c r.m.now tape r.buffer.now (write_next r.q r.t r.i) c.requires r.q r.t r.i refl refl _ _ _ 0 refl c.if-buffer-c.false refl refl (sent-length (goal.at.returns c).After-send-e)
    (write-sent r.c p.result s.result r.m.now s.new.m [] r.q r.t r.i p.ensures s.ensures.0 s.ensures.1 _) (omega arith) o.ensures)
