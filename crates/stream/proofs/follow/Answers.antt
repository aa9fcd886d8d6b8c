use Rattle.std.proofs.Common.{refl, ◌∙◌, arith, []}
use Rattle.session.specs.Answers.{fresh-served}
use Rattle.stream.specs.Stream.{buffers}
use Rattle.stream.specs.History.{zeros}
use Rattle.stream.proofs.Turns.{history-start}
use Rattle.stream.proofs.Carry.{moved-start, moved_on, followed-handed, broken-off, steps-on, closes-closed, turns-closed}
use Rattle.stream.proofs.follow.Goals as goal

pub loop-turn-init : goal.loop-turn-init
loop-turn-init g c = (
  record { served = rw c.start.ensures (fresh-served _); tape = omega arith; from = omega arith; to = omega arith; len = omega arith; at = omega arith },
  refl,
  omega arith,
  c.empty.ensures.2,
  ([], history-start _ _ _ _ c.start.ensures refl refl refl refl c.empty.ensures.0 c.empty.ensures.1, moved-start zeros _ _ _ _ _ refl refl c.empty.ensures.1, omega arith),
)

pub returns-in_err-s-clause-broken : goal.returns-in_err-s-clause-broken
returns-in_err-s-clause-broken g c =
    let v = c.loop-turn.invariant in
    broken-off zeros v.4.0 _ _ _ _ _ v.4.1 v.3 _ _ _ _ v.4.2 c.from_residual.result _ _ c.in_err-s.ensures.unread c.in_err-s.ensures.part

pub returns-then-s-clause-followed : goal.returns-then-s-clause-followed
returns-then-s-clause-followed g c =
    let v = c.loop-turn.invariant in
    let t = c.in_ok-s.ensures.turned in
    let b = buffers c.turn.new.tape c.turn.new.memory c.turn.new.host c.turn.new.out in
    followed-handed zeros _ _ c.in_ok-s.s c.turn.new.chunk c.turn.new.line b (t.0.history zeros v.4.0 v.4.1) (t.0.silent ∙ v.3) _ _ _ _
    (moved_on zeros v.4.0 _ _ _ _ _ v.4.1 v.3 _ _ _ _ v.4.2 v.1 _ _ _ _ t.0 _ _ t.1) t.0.ready.at (omega (arith, v.2, t.0.size))
    (closes-closed zeros _ _ _ _ (λ f more y. t.1.closes c.if-s.true f zeros v.4.0 more v.4.1 y))

pub loop-turn-preserved : goal.loop-turn-preserved
loop-turn-preserved g c =
    let v = c.loop-turn.invariant in
    let t = c.in_ok-s.ensures.turned in (
      t.0.ready,
      c.if-s.false,
      omega (arith, v.2, t.0.size),
      t.0.silent ∙ v.3,
      (_, t.0.history zeros v.4.0 v.4.1, moved_on zeros v.4.0 _ _ _ _ _ v.4.1 v.3 _ _ _ _ v.4.2 v.1 _ _ _ _ t.0 _ _ t.1, steps-on t.0.found v.4.0 _ _ c.loop-turn._turn v.4.3 (t.1.steps c.if-s.false)),
    )

pub returns-clause-followed : goal.returns-clause-followed
returns-clause-followed g c =
    let v = c.loop-turn.invariant in
    let b = buffers c.loop-turn.tape c.loop-turn.memory c.loop-turn.host c.loop-turn.out in
    followed-handed zeros v.4.0 _ c.loop-turn.s _ _ b v.4.1 v.3 _ _ _ _ v.4.2 v.0.at (omega (arith, v.2)) (turns-closed zeros v.4.0 _ _ _ c.loop-turn._turn (omega arith) v.4.3)
