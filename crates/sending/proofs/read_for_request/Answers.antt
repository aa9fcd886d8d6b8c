use Rattle.std.specs.Prelude.{if◌then◌else◌}
use mathlib.Core.Path.{◌≡◌, refl, ap, ◌∙◌}
use native.Mathlib.Omega.{arith}
use lib.ListN.{length}
use Rattle.rules.specs.Turn.{read_for_request, command, step_bounds}
use Rattle.rules.specs.Questions.{sends, possible}
use Rattle.rules.specs.Jobs.{joined}
use Rattle.rules.specs.Request.{is_source}
use Rattle.rules.proofs.Laws.Decided.{read-filled}
use Rattle.client.specs.Moves.{with_begun}
use Rattle.client.specs.View.{state_of, view}
use Rattle.sending.specs.Sent.{passed, asked-for, read-performs, request-sent}
use Rattle.sending.proofs.read_for_request.Goals as goal
use Rattle.sending.proofs.read_for_request.Goals.{After-send-e}

sent-length : (c : After-send-e) → length c.send-e.new.m ≡ length c.args.m.now
sent-length c = omega arith

pub begun-n-requires : goal.begun-n-requires
begun-n-requires c =
    let r = c.args in
    (c.requires.usable, c.requires.inside.0, read-filled (state_of r.c r.m.now) r.q r.l r.i c.requires.step)

pub returns : goal.returns
unfolding command sends possible step_bounds
returns c =
    let s = c.send-e in
    let p = c.pass_level-d in
    let w = c.with_begun in
    let k = c.mark_read in
    let g = c.begun-n in
    let r = c.args in
    let S = state_of r.c r.m.now in
    let n : g.result ≡ (if is_source S r.q r.l then joined S r.q else S.begun) = unfold state_of view in g.ensures in
    let d : p.result ≡ passed r.l (with_begun g.result r.c) = p.ensures ∙ ap (passed r.l) w.ensures in
    rw c.sent.ensures (λ tape b. read-performs r.c r.m.now tape b (read_for_request r.q r.l r.i) c.requires _ _ r.q r.l r.i refl refl refl refl (sent-length (goal.at.returns c).After-send-e)
    (request-sent r.c p.result s.result r.m.now k.new.m s.new.m r.q r.l r.i g.result (asked-for r.c r.m.now r.q r.l r.i c.requires) k.ensures n d s.ensures.0 s.ensures.1 _))
