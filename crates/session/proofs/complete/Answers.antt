use mathlib.Core.Path.{◌≡◌, refl, ap, ◌∙◌}
use Prim.Native.Nat.{◌+◌, ◌-◌}
use lib.ListN.{length, take, drop}
use native.Mathlib.Omega.{arith}
use Rattle.contract.specs.Answers.{accepted_as}
use Rattle.memory.specs.Parts.{part-put}
use Rattle.session.specs.Session.{fetched}
use Rattle.session.specs.TurnLine.{completes-write, completes-read}
use Rattle.session.proofs.complete.Goals as goal

pub returns-then-r-eq-WRITE : goal.returns-then-r-eq-WRITE
returns-then-r-eq-WRITE c =
    let l : length c.args.bytes.now ≡ c.first-a.result + c.args.r.client.shape.b - c.first-a.result = omega (arith, c.requires.3) in
    rw c.left.ensures (completes-write (accepted_as c.args.r) c.args.memory.now c.args.host.now c.args.bytes.now _ _ _ _ c.if-r-eq-WRITE.true refl c.completion-w.ensures
    (rw (c.copy_from_slice.ensures.after, part-put c.first-a.result (c.first-a.result + c.args.r.client.shape.b) c.args.host.now c.args.bytes.now l, c.first-a.ensures.0)))

pub returns : goal.returns
returns c =
    let whole : c.first-a.result + c.args.r.client.shape.b - c.first-a.result ≡ c.args.r.client.shape.b = omega arith in
    rw c.left-2.ensures (completes-read (accepted_as c.args.r) c.args.memory.now c.args.host.now c.args.bytes.now _ _ _ _ (omega (arith, c.if-r-eq-WRITE.false, c.requires.1, c.requires.2)) (ap (λ n. take n (drop c.first-a.result c.args.host.now)) whole ∙ (unfold fetched in (ap (λ n. take c.args.r.client.shape.b (drop n c.args.host.now)) c.first-a.ensures.0))) c.completion-d.ensures refl)
