use mathlib.Core.Path.{◌≡◌, refl, ap, ◌∙◌}
use Rattle.client.specs.Moves.{with_begun, with_cursor}
use Prim.Native.Nat.{suc, ◌+◌, ◌-◌}
use Rattle.rules.specs.Shape.{offset}
use Rattle.rules.specs.Turn.{read_for_job, command, step_bounds}
use Rattle.rules.specs.Questions.{sends, possible}
use Rattle.sending.specs.Sent.{read-performs, job-sent}
use native.Mathlib.Omega.{arith}
use lib.ListN.{length}
use Rattle.sending.proofs.read_for_job.Goals as goal
use Rattle.sending.proofs.read_for_job.Goals.{After-send-e}

sent-length : (c : After-send-e) → length c.send-e.new.m ≡ length c.args.m.now
sent-length c = omega arith

pub returns : goal.returns
unfolding command sends possible step_bounds
returns c =
    let s = c.send-e in
    let p = c.with_cursor-d in
    let t = c.pow2 in
    let g = c.with_begun in
    let k = c.mark_read in
    let j = c.running-run in
    let r = c.args in
    let n : t.result - 2 + r.i + 1 ≡ suc (offset r.l r.i) = unfold offset in omega arith in
    let d : p.result ≡ with_cursor (t.result - 2 + r.i + 1) (with_begun j.result.joined r.c) = p.ensures ∙ ap (with_cursor (t.result - 2 + r.i + 1)) g.ensures in
    rw c.sent.ensures (λ tape b. read-performs r.c r.m.now tape b (read_for_job r.q r.l r.i) c.requires _ _ r.q r.l r.i refl refl refl refl (sent-length (goal.at.returns c).After-send-e)
    (job-sent r.c p.result s.result r.m.now k.new.m s.new.m r.q r.l r.i (t.result - 2 + r.i + 1) j.result.joined k.ensures n j.ensures.joined d s.ensures.0 s.ensures.1 _))
