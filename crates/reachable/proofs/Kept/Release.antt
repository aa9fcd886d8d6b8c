-- A request that is released keeps the invariant.
use Rattle.std.specs.Prelude.{◌≡◌, ◌⊎◌, Bool, ◌&&◌, ℕ, ◌+◌, ◌%◌, ◌^◌, ◌≤◌, ◌<◌, length, if◌then◌else◌}
use Rattle.std.proofs.Math.Path.{refl}
use Rattle.std.proofs.Common.{ap, sym, ◌∙◌, subst, true≢false, mod-lt, arith, drop_of_length-le, pow_pos}
use Rattle.std.proofs.Math.Logic.{inl, inr, ⊎_elim}
use Rattle.std.proofs.Math.Bool.{true, false, not}
use Rattle.std.proofs.Math.Option.{Option, none, some, map}
use Rattle.std.proofs.Math.Dec.{leb}
use borrow.Author.Tests.{leb-false}
use Rattle.lists.specs.All.{nil, any_none}
use Rattle.lists.specs.Distinct.{Mem}
use Rattle.lists.specs.Members.{not-member, all-mem, below-mem}
use Rattle.lists.specs.Search.{any, below, member, is_none}
use Rattle.lists.specs.Tests.{and_l, and_r, not-true}
use Rattle.rules.specs.Blocks.{look_up, reads_of}
use Rattle.rules.proofs.Laws.Kept.{release-in}
use Rattle.rules.specs.Laws.Range.{InRange}
use Rattle.rules.specs.Levels.{filled}
use Rattle.rules.specs.Request.{undrawn_only, is_source, worn, held_for, blocked, held, with_found, released_in, release}
use Rattle.rules.specs.Setters.{set_request}
use Rattle.rules.specs.State.{State, Request}
use Rattle.reachable.proofs.Consequences.{block-lt}
use Rattle.reachable.specs.Invariant.{Reached}
use Rattle.reachable.proofs.Kept.Carry.{Loose, carry-kept}
use Rattle.reachable.specs.Live.{counted, pending, passed_by, undrawn, Alone}
use Rattle.reachable.proofs.Live.{counted-other, not-front, only-alone, front-mem}
use Rattle.reachable.proofs.Pending.{undrawn-mem, queued-none, bit-no, passed-why}

module _ (s : State) (f : Reached s) (r : Request) (in_hand : s.request ≡ some r) (u : held r ≡ true) (free : blocked s r ≡ false) where
  abbrev q : ℕ
  q = s.partition r.block

  low : r.level ≡ 0
  low = ⊎_elim (λ z. z) (λ z. absurd (true≢false (sym u ∙ z))) (f.unheld r in_hand)

  -- its partition has no job, or the rule of P4 lets it pass
  abbrev Passes : Type 0
  Passes = Alone s q × ((ℓ : ℕ) → ℓ < s.shape.L → worn s q ℓ ≡ false)

  cases : (¬ Mem q s.queue) ⊎ Passes
  cases = go (member q s.queue) (undrawn_only s q) (any (worn s q) (below s.shape.L)) refl refl refl (unfold blocked held_for in free)
    where
      go : (a b c : Bool) → member q s.queue ≡ a → undrawn_only s q ≡ b → any (worn s q) (below s.shape.L) ≡ c → (a && not (b && not c)) ≡ false → (¬ Mem q s.queue) ⊎ Passes
      go false b c ea eb ec w = inl (not-member q s.queue ea)
      go true false c ea eb ec w = absurd (true≢false w)
      go true true true ea eb ec w = absurd (true≢false w)
      go true true false ea eb ec w = inr (only-alone s q eb, λ ℓ hℓ. all-mem (any_none (worn s q) (below s.shape.L) ec) ℓ (below-mem s.shape.L ℓ hℓ))

  -- a level that is not worn, and no source
  unworn : (ℓ : ℕ) → worn s q ℓ ≡ false → filled (s.counter q) ℓ ≡ true → is_source s q ℓ ≡ false → reads_of s.shape s.mark q ℓ < 2 ^ ℓ
  unworn ℓ w full n = go (filled (s.counter q) ℓ) (is_source s q ℓ) (leb (2 ^ ℓ) (reads_of s.shape s.mark q ℓ)) full refl refl (unfold worn in w)
    where
      go : (a b c : Bool) → a ≡ true → is_source s q ℓ ≡ b → leb (2 ^ ℓ) (reads_of s.shape s.mark q ℓ) ≡ c → (a && (not b && c)) ≡ false → reads_of s.shape s.mark q ℓ < 2 ^ ℓ
      go false b c e eb ec w = absurd (true≢false (sym e))
      go true true c e eb ec w = absurd (true≢false (sym eb ∙ n))
      go true false true e eb ec w = absurd (true≢false w)
      go true false false e eb ec w = leb-false (2 ^ ℓ) (reads_of s.shape s.mark q ℓ) ec

  -- without a job, a level has been read once for each job since it was written
  calm : ¬ Mem q s.queue → (ℓ : ℕ) → ℓ < s.shape.L → filled (s.counter q) ℓ ≡ true → reads_of s.shape s.mark q ℓ < 2 ^ ℓ
  unfolding pending
  calm n ℓ hℓ full = ⊎_elim (λ g. absurd (n (front-mem s.queue q g.0))) few (f.reads q ℓ hq hℓ (ap (λ c. filled c ℓ) (counted-other s q (not-front s.queue q n)) ∙ full))
    where
      hq : q < s.shape.P
      hq = f.range.partitions r.block (block-lt s f r in_hand)

      few : reads_of s.shape s.mark q ℓ ≤ counted s q % 2 ^ ℓ + pending s q ℓ → reads_of s.shape s.mark q ℓ < 2 ^ ℓ
      few k = omega (
        arith,
        k,
        mod-lt (counted s q) (pow_pos ℓ),
        queued-none q (undrawn s.queue s.begun s.sent) (λ m. n (undrawn-mem q s.queue s.begun s.sent m)),
        bit-no (passed_by s.partition s.request q ℓ) (λ j. let w = passed-why s.partition s.request r q ℓ in_hand j in omega (arith, low, w.1)),
      )

  loose : Loose s r (length s.outstanding) s.outstanding
  loose = (
    ⊎_elim inl (λ k. inr k.0) cases,
    (
      (λ ℓ l hℓ full n. ⊎_elim (λ k. calm k ℓ hℓ full) (λ k. unworn ℓ (k.1 ℓ hℓ) full n) cases),
      rw (drop_of_length-le s.outstanding {i = length s.outstanding} (omega arith)) nil,
    ),
  )

  pub found-kept : InRange (set_request (some (with_found (look_up s r.block) (length s.outstanding) r)) s) → Reached (set_request (some (with_found (look_up s r.block) (length s.outstanding) r)) s)
  found-kept range = carry-kept s f r in_hand (some (look_up s r.block)) (length s.outstanding) s.outstanding f.apart f.commands (inr (unfold held is_none in refl)) (λ k. loose) range

pub release-kept : (s : State) → Reached s → Reached (release s)
release-kept s f = go s.request refl (release-in s f.range)
  where
    same : (o : Option Request) → s.request ≡ o → Reached (set_request o s)
    same o e = subst (λ (o : Option Request). Reached (set_request o s)) e f

    one : (r : Request) → s.request ≡ some r → (t : Bool) → (held r && not (blocked s r)) ≡ t
        → InRange (set_request (some (if t then with_found (look_up s r.block) (length s.outstanding) r else r)) s) → Reached (set_request (some (if t then with_found (look_up s r.block) (length s.outstanding) r else r)) s)
    one r e true k range = found-kept s f r e (and_l (held r) (not (blocked s r)) k) (not-true (blocked s r) (and_r (held r) (not (blocked s r)) k)) range
    one r e false k range = same (some r) e

    go : (o : Option Request) → s.request ≡ o → InRange (set_request (map (released_in s) o) s) → Reached (set_request (map (released_in s) o) s)
    go none e range = (same none e)
    go (some r) e range = unfold released_in in (one r e (held r && not (blocked s r)) refl (unfold released_in in range))
