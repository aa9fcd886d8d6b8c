use mathlib.Core.Path.{refl, sym, ◌∙◌}
use Rattle.exports.proofs.Settled.{none-held}
use Rattle.exports.proofs.hand_back_turn.Goals as goal

pub returns-then-not-is_held : goal.returns-then-not-is_held
returns-then-not-is_held c =
    let e = c.encode_turn in
    λ x. rw c.in-Ok.is (record { answer = c.pack.ensures x; accepted = λ _. rw (← e.ensures) (none-held _ _ (sym c.is_held.ensures ∙ c.if-not-is_held.true)); refused = λ n. absurd (n refl) })

pub returns-else-not-is_held : goal.returns-else-not-is_held
returns-else-not-is_held c = λ x. rw c.in-Ok.is (record { answer = c.pack-in-Ok.ensures x; accepted = λ _. rw (← c.encode_turn.ensures) c.release.ensures; refused = λ n. absurd (n refl) })
