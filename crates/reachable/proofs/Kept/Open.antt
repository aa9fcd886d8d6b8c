-- The state that an accepted open leaves has the invariant.
use Rattle.std.proofs.Math.Path.{◌≡◌, refl, ap}
use Rattle.std.proofs.Common.{sym, ◌∙◌}
use Rattle.std.specs.Prelude.{true, ℕ, ◌^◌, ◌≤◌, length}
use Rattle.std.proofs.Math.Bool.{true≢false}
use mathlib.Core.List.{List, []}
use native.Mathlib.Omega.{arith}
use Rattle.std.proofs.Math.ListN.{length-replicate, get_or-eq_default}
use Rattle.lists.specs.All.{nil}
use Rattle.lists.specs.Members.{nodup-sub}
use Rattle.lists.specs.Totals.{total-none}
use Rattle.rules.specs.Laws.Range.{InRange}
use Rattle.rules.specs.Levels.{filled}
use Rattle.rules.specs.Open.{fresh}
use Rattle.rules.specs.Shape.{slots, Shape, cell}
use Rattle.rules.proofs.Laws.Bits.{filled_zero}
use Rattle.reachable.proofs.Blocks.{not-nowhere, nodup-at, at-why, nodup-in, in-why}
use Rattle.rules.specs.Form.Loading.{is_in, stored_at}
use Rattle.reachable.specs.Invariant.{taken, holds_of, Reached}
use Rattle.reachable.specs.Live
use Rattle.reachable.specs.Live.{counted}
use Rattle.reachable.proofs.Live.{counted-calm}
use Rattle.reachable.specs.Terms.{none_apart}

module _ (h : Shape) (js : List ℕ) where
  -- no level of a fresh state is filled
  no-level : (q ℓ : ℕ) → filled (counted (fresh h js) q) ℓ ≡ true → ⊥
  unfolding fresh
  no-level q ℓ e = true≢false (sym e ∙ ap (λ c. filled c ℓ) zero-count ∙ filled_zero ℓ)
    where
      zero-count : counted (fresh h js) q ≡ 0
      zero-count = counted-calm (fresh h js) q refl

  none-taken : (q ℓ : ℕ) → holds_of h (fresh h js).holds q ℓ ≤ 2 ^ ℓ
  unfolding holds_of fresh taken
  none-taken q ℓ = let z = total-none (slots ℓ) (λ i. taken ((fresh h js).holds (cell h q ℓ i))) (λ i l. refl) in omega arith

  pub fresh_kept : length js ≡ h.N → InRange (fresh h js) → Reached (fresh h js)
  unfolding fresh is_in Live.is_below
  fresh_kept many range = record {
    range = range;
    waiting = record { once = tt; absent = λ b m. refl };
    orders = record { one = λ q ℓ j k hq hℓ e. absurd (no-level q ℓ e); each = λ q ℓ i hq hℓ e. absurd (no-level q ℓ e) };
    items = λ q ℓ hq hℓ e. absurd (no-level q ℓ e);
    agree = record { placed = λ b ℓ i hb e. absurd (not-nowhere ℓ i e); held = λ q ℓ i b hq hℓ hi e. absurd (omega (arith, e)) };
    room = λ q ℓ. omega (arith, nodup-sub (stored_at (fresh h js) q ℓ) [] (nodup-at (fresh h js) q ℓ) (λ b m. true≢false (sym (at-why (fresh h js) q ℓ b m).2)));
    full = λ q. omega (arith, nodup-sub (Live.stored_in (fresh h js) q h.L) [] (nodup-in (fresh h js) q h.L) (λ b m. true≢false (sym (in-why (fresh h js) q h.L b m).2)));
    taken = λ q ℓ hq hℓ. none-taken q ℓ;
    begun = λ n. absurd (n refl);
    running = λ n. absurd (n refl);
    unbegun = λ e. (refl, refl);
    reads = λ q ℓ hq hℓ e. absurd (no-level q ℓ e);
    unheld = λ r e. let z : ◌≡◌ {A = ℕ} 0 1 = cc in absurd (omega arith);
    released = λ r e. let z : ◌≡◌ {A = ℕ} 0 1 = cc in absurd (omega arith);
    unworn = λ r e. let z : ◌≡◌ {A = ℕ} 0 1 = cc in absurd (omega arith);
    unawaited = λ r e. let z : ◌≡◌ {A = ℕ} 0 1 = cc in absurd (omega arith);
    unread = λ b m j hb e. absurd (not-nowhere m j e);
    fetched = λ r m j e. let z : ◌≡◌ {A = ℕ} 0 1 = cc in absurd (omega arith);
    scanned = λ q ℓ i a z l hi c. absurd (omega arith);
    apart = none_apart;
    commands = nil;
    tidy = record {
      partitions = λ b l. get_or-eq_default js 0 (omega arith);
      places = λ b l. refl;
      counters = λ q l. refl;
      marked = λ c n. absurd (n refl);
      held = λ c n. absurd (n refl);
      whole = λ b. length-replicate h.B 0;
    };
  }
