-- The rule on worn levels holds no request: while a request is held, and so has sent no read, a level of its partition that is no source has been read
-- less than 2^ℓ times beside the only run, not yet drawn. Its reads are at most the jobs drawn since it was written, and one for each job of that run; and
-- as counter + j does not carry into it, these are less than 2^ℓ.
use Rattle.std.specs.Prelude.{◌≡◌, refl, Bool, true, false, not, ◌&&◌, List, ◌∷◌}
use Rattle.std.proofs.Common.{ap, sym, ◌∙◌, true≢false, mod-lt, pow_pos}
use Rattle.std.proofs.Math.Logic.{⊎_elim}
use Rattle.std.proofs.Math.Option.{some}
use Prim.Native.Nat.{ℕ, ◌+◌, ◌%◌, ◌^◌, ◌≤◌, ◌<◌}
use native.Mathlib.Omega.{arith}
use Rattle.std.proofs.Math.Decide.{dec_lt}
use Rattle.std.proofs.Math.Dec.{leb}
use borrow.Author.Tests.{leb-true}
use Rattle.lists.specs.Search.{any, below, member}
use Rattle.lists.specs.All.{any-all, below-below}
use Rattle.lists.specs.Tests.{and_l, and_r, not-true}
use Rattle.rules.specs.Blocks.{reads_of}
use Rattle.rules.specs.Jobs.{queued, joined, top_of}
use Rattle.rules.proofs.Laws.Levels.{levels-pos}
use Rattle.rules.specs.Levels.{filled, grown, top_level}
use Rattle.rules.specs.Request.{undrawn_only, is_source, worn, held_for, blocked, held}
use Rattle.rules.specs.State.{State, Request}
use Rattle.rules.proofs.Laws.Grown.{grown-mod}
use Rattle.reachable.proofs.Consequences.{block-lt, joins-front, joined-least}
use Rattle.reachable.specs.Invariant.{Reached}
use Rattle.reachable.specs.Live.{counted, pending, passed_by, undrawn, Alone}
use Rattle.reachable.proofs.Live.{counted-calm, only-alone, gathers-source, source_is, front_rest}
use Rattle.reachable.proofs.Pending.{undrawn-calm, bit-no, passed-why}

module _ (s : State) (f : Reached s) (r : Request) (in_hand : s.request ≡ some r) (u : held r ≡ true) (alone : Alone s (s.partition r.block)) where
  abbrev q : ℕ
  q = s.partition r.block

  hb : r.block < s.shape.N
  hb = block-lt s f r in_hand

  -- a filled level that is no source
  few : (ℓ : ℕ) → ℓ < s.shape.L → filled (s.counter q) ℓ ≡ true → is_source s q ℓ ≡ false → reads_of s.shape s.mark q ℓ < 2 ^ ℓ
  unfolding pending
  few ℓ hℓ full n = ⊎_elim (λ g. absurd (true≢false (sym (gathers-source s f.running q ℓ g) ∙ n))) less (f.reads q ℓ (f.range.partitions r.block hb) hℓ (ap (λ c. filled c ℓ) (counted-calm s q alone.2) ∙ full))
    where
      h_l : 1 ≤ s.shape.L
      h_l = levels-pos s.shape f.range.shape

      hc : s.counter q < 2 ^ s.shape.L
      hc = f.range.counters q (f.range.partitions r.block hb)

      front : (rest : List ℕ) × (s.queue ≡ q ∷ rest)
      front = front_rest s.queue q alone.0

      above : top_level s.shape (s.counter q) (joined s q) < ℓ
      above = go (dec_lt (top_level s.shape (s.counter q) (joined s q)) ℓ)
        where
          go : Dec (top_level s.shape (s.counter q) (joined s q) < ℓ) → top_level s.shape (s.counter q) (joined s q) < ℓ
          go (yes l) = l
          go (no l) = absurd (true≢false (sym (source_is s q ℓ alone.0 (unfold top_of in (omega arith)) full) ∙ n))

      low : r.level ≡ 0
      low = ⊎_elim (λ z. z) (λ z. absurd (true≢false (sym u ∙ z))) (f.unheld r in_hand)

      jobs : queued (undrawn s.queue s.begun s.sent) q ≤ joined s q
      jobs = omega (arith, joined-least s f q front.0 front.1, alone.1, ap (λ qs. queued qs q) (undrawn-calm s.queue s.begun s.sent alone.2))

      less : reads_of s.shape s.mark q ℓ ≤ counted s q % 2 ^ ℓ + pending s q ℓ → reads_of s.shape s.mark q ℓ < 2 ^ ℓ
      less k = omega (
        arith,
        k,
        jobs,
        ap (λ c. c % 2 ^ ℓ) (counted-calm s q alone.2),
        bit-no (passed_by s.partition s.request q ℓ) (λ j. let w = passed-why s.partition s.request r q ℓ in_hand j in omega (arith, low, w.1)),
        grown-mod s.shape (s.counter q) (joined s q) h_l hc (joins-front s f q front.0 front.1) ℓ above hℓ,
        mod-lt (grown s.shape (s.counter q) (joined s q)) (pow_pos ℓ),
      )

  never-worn : (ℓ : ℕ) → ℓ < s.shape.L → worn s q ℓ ≡ true → ⊥
  unfolding worn
  never-worn ℓ hℓ e =
      let t = and_r (filled (s.counter q) ℓ) (not (is_source s q ℓ) && leb (2 ^ ℓ) (reads_of s.shape s.mark q ℓ)) e in
      omega (
        arith,
        few ℓ hℓ (and_l (filled (s.counter q) ℓ) (not (is_source s q ℓ) && leb (2 ^ ℓ) (reads_of s.shape s.mark q ℓ)) e)
            (not-true (is_source s q ℓ) (and_l (not (is_source s q ℓ)) (leb (2 ^ ℓ) (reads_of s.shape s.mark q ℓ)) t)),
        leb-true (2 ^ ℓ) (reads_of s.shape s.mark q ℓ) (and_r (not (is_source s q ℓ)) (leb (2 ^ ℓ) (reads_of s.shape s.mark q ℓ)) t),
      )

-- So a held request to which the rule for holding applies has a job of its partition queued, and that is not the only one, at the front and undrawn
pub blocked-why : (s : State) → Reached s → (r : Request) → s.request ≡ some r → held r ≡ true → blocked s r ≡ true
    → (member (s.partition r.block) s.queue ≡ true) × (undrawn_only s (s.partition r.block) ≡ false)
blocked-why s f r e u k = go (member q s.queue) (undrawn_only s q) (any (worn s q) (below s.shape.L)) refl refl refl (unfold blocked held_for in k)
  where
    q : ℕ
    q = s.partition r.block

    go : (a b c : Bool) → member q s.queue ≡ a → undrawn_only s q ≡ b → any (worn s q) (below s.shape.L) ≡ c → (a && not (b && not c)) ≡ true
        → (member q s.queue ≡ true) × (undrawn_only s q ≡ false)
    go false b c ea eb ec w = absurd (true≢false (sym w))
    go true false c ea eb ec w = (ea, eb)
    go true true false ea eb ec w = absurd (true≢false (sym w))
    go true true true ea eb ec w =
        let x = any-all (worn s q) (below-below s.shape.L) ec in
        absurd (never-worn s f r e u (only-alone s q eb) x.0 x.1.1 x.1.0)
