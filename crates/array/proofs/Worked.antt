-- Document 01's worked session meets the claim's premise, with a host that takes a write's bytes at once and with one that takes them at the
-- completion, whatever they had before; and what the claim says of the session, by computation.
use Rattle.std.specs.Prelude.{◌≡◌, refl, ℕ}
use Rattle.std.proofs.Common.{arith}
use Rattle.rules.proofs.Checked.Worked.{worked-calls, worked-outcomes}
use Rattle.rules.specs.Unfold.{model}
use Rattle.array.specs.Claim.{Slots, store, sends, Expected, Plain, change, next, expects}
use Rattle.array.specs.Hosts.{AtOnce, AtCompletion, lands, landed}

no_read : ◌≡◌ {A = ℕ} 2 1 → ⊥
no_read e = omega arith

pub worked-at-once : (x : Slots) → AtOnce x worked-calls worked-outcomes
unfolding model store sends worked-calls worked-outcomes
worked-at-once x =
    (λ e. tt, (λ e. tt, (λ e. tt, (λ e. tt, (λ e k. absurd (no_read k), (λ e. tt, (λ e k. absurd (no_read k), (λ e. tt, (λ e k. refl, (λ e. tt, (λ e k. refl, (λ e. tt, (λ e k. absurd (no_read k), (λ e. tt, (λ e k. absurd (no_read k), (λ e. tt, (λ e. tt, (λ e k. refl, (λ e. tt, tt)))))))))))))))))))

pub worked-at-completion : (last x : Slots) → AtCompletion last x worked-calls worked-outcomes
unfolding model store sends lands landed worked-calls worked-outcomes
worked-at-completion last x =
    (λ e. tt, (λ e. tt, (λ e. tt, (λ e. tt, (λ e k. absurd (no_read k), (λ e. tt, (λ e k. absurd (no_read k), (λ e. tt, (λ e k. refl, (λ e. tt, (λ e k. refl, (λ e. tt, (λ e k. absurd (no_read k), (λ e. tt, (λ e k. absurd (no_read k), (λ e. tt, (λ e. tt, (λ e k. refl, (λ e. tt, tt)))))))))))))))))))

-- the 00 and the 07 that it collects are the array's
pub worked-plain : (m : Expected) → Plain m worked-calls worked-outcomes
unfolding model change next expects worked-calls worked-outcomes
worked-plain m =
    (λ e. tt, (λ e. tt, (λ e. refl, (λ e. tt, (λ e. tt, (λ e. tt, (λ e. tt, (λ e. tt, (λ e. tt, (λ e. tt, (λ e. tt, (λ e. tt, (λ e. tt, (λ e. tt, (λ e. tt, (λ e. tt, (λ e. tt, (λ e. tt, (λ e. refl, tt)))))))))))))))))))
