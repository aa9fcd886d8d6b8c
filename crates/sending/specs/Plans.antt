-- What a rebuild goes by: the jobs that run together, and the blocks that they take from the cache.
use Rattle.std.specs.Prelude.{◌≡◌, refl, true, false, Option, Some, None, is_some, ◌&&◌, length, eqb, leb}
use Rattle.std.proofs.Math.Path.{ap, sym}
use Rattle.std.proofs.Common.{◌∙◌, true≢false, pow_mono, le-leb, eqb-true}
use mathlib.Core.List.{List, [], ◌∷◌}
use Prim.Native.Nat.{ℕ, zero, suc, min, ◌-◌, ◌/◌, ◌^◌, ◌≤◌, ◌<◌}
use native.Mathlib.Omega.{arith}
use Rattle.std.proofs.Math.ListN.{get_or, take}
use Rattle.std.proofs.lemmas.Bool.{lt-leb}
use Rattle.lists.specs.Distinct.{NoDup}
use Rattle.lists.specs.Members.{nodup-keep, nodup-below}
use Rattle.lists.specs.Search.{keep}
use Rattle.lists.specs.Tests.{and_l}
use Rattle.rules.specs.State.{State}
use Rattle.rules.specs.Draws.{draws}
use Rattle.rules.specs.Levels.{filled, top_level, down, written_levels}
use Rattle.rules.specs.Jobs.{joined, top_of, levels_of, capacity, slot_count}
use Rattle.rules.specs.Request.{is_front, is_source}
use Rattle.rules.specs.Blocks.{blocks_in}
use Rattle.rules.specs.Rebuild.{chosen, gather_from, gathered}
use Rattle.rules.specs.Turn.{rebuild}
use Rattle.rules.specs.Run.{taken_of}
use Rattle.rules.specs.Questions.{possible}
use Rattle.rules.proofs.Laws.Bits.{slots-capacity}
use Rattle.rules.proofs.Laws.Drawn.{taken-lent}
use Rattle.rules.proofs.Laws.Grown.{written-top, written-few}
use Rattle.rules.specs.Laws.Decided.{Front}
use Rattle.memory.specs.Fits.{shape_of}
use Rattle.client.specs.declared.Client.{Client}
use Rattle.client.specs.View.{view, state_of}
use Rattle.client.specs.Rows.{drop_at}
use Rattle.cache.specs.Longest.{waits_for, Longest}
use Rattle.gather.specs.Gathered.{Gathers}
use Rattle.ready.specs.Usable.{Usable}
use Rattle.jobs.specs.declared.Run.{Run}
use Rattle.jobs.specs.Runs.{Runs, RunOf}
use Rattle.sending.specs.declared.Plan.{Plan}

-- the front job is for q
pub front-runs : (c : Client) (m : List ℕ) (q : ℕ) → Usable c m → q < c.shape.p → Front (state_of c m) q → Runs c m q
front-runs c m q u l f = record {
  room = u.room;
  jobs = u.jobs;
  partition = l;
  front = f.1 ∙ ap (λ qs. q ∷ drop_at 0 qs) (sym f.1);
  begun = u.counts.begun;
}

-- it is where a level of q is a source
pub source-front : (s : State) (q ℓ : ℕ) → is_source s q ℓ ≡ true → Front s q
unfolding is_source is_front
source-front s q ℓ e = go s.queue refl (and_l (is_front s.queue q) (leb ℓ (top_of s q) && filled (s.counter q) ℓ) e)
  where
    go : (qs : List ℕ) → s.queue ≡ qs → is_front qs q ≡ true → Front s q
    go [] d h = absurd (true≢false (sym h))
    go (p ∷ qs) d h = let k : p ≡ q = eqb-true p q h in (qs, d ∙ ap (λ x. x ∷ qs) k)

pub record PlanOf (c : Client) (m : List ℕ) (q : ℕ) (p : Plan) : Type 0 where
  pub joined : p.joined ≡ joined (state_of c m) q
  pub top : p.top ≡ top_of (state_of c m) q
  pub level : p.top < c.shape.l
  pub levels : levels_of (state_of c m) q ≡ keep (filled p.next) (down (suc p.top))
  pub head : get_or (levels_of (state_of c m) q) 0 0 ≡ p.top
  pub first : Longest (state_of c m) q p.first
  pub taken : take p.taken (keep (waits_for (state_of c m) q) (state_of c m).waiting) ≡ chosen (state_of c m) q
  pub most : p.taken ≤ p.joined

-- the tables that a rebuild changes do not say who waits
module _ (c : Client) (m m' : List ℕ) (q : ℕ) (s : State) (e : state_of c m' ≡ s) (w : s.waiting ≡ (state_of c m).waiting) (p : s.partition ≡ (state_of c m).partition) where
  who : (state_of c m').waiting ≡ (state_of c m).waiting
  who = ap (λ (z : State). z.waiting) e ∙ w

  of : (state_of c m').partition ≡ (state_of c m).partition
  of = ap (λ (z : State). z.partition) e ∙ p

  pub longest-stays : (r : Option ℕ) → Longest (state_of c m) q r → Longest (state_of c m') q r
  longest-stays None f = (λ i. keep (λ b. eqb (of i b) q) (who i)) ∙ f
  longest-stays (Some r) f = record {
    inside = rw who f.inside;
    before = (λ i. keep (λ b. eqb (of i b) q) (take r (who i))) ∙ f.before;
    here = (λ i. eqb (of i (get_or (who i) r 0)) q) ∙ f.here;
  }

-- ---- The blocks that are taken

module _ (s : State) (q : ℕ) where
  abbrev waits : List ℕ
  waits = keep (waits_for s q) s.waiting

  abbrev room : ℕ
  room = 2 ^ (s.shape.L - 1) - blocks_in s q s.shape.L

  -- no block waits for q
  pub nobody-waits : (r : Option ℕ) → is_some r ≡ false → Longest s q r → take 0 waits ≡ chosen s q
  unfolding chosen
  nobody-waits (Some r) e f = absurd (true≢false e)
  nobody-waits None e f = sym (ap (take (min (joined s q) room)) f ∙ none (min (joined s q) room))
    where
      none : (n : ℕ) → ◌≡◌ {A = List ℕ} (take n []) []
      none zero = refl
      none (suc n) = refl

  -- q is full
  pub full-taken : 2 ^ (s.shape.L - 1) ≤ blocks_in s q s.shape.L → take 0 waits ≡ chosen s q
  unfolding chosen
  full-taken l = let z : 0 ≡ min (joined s q) room = omega arith in ap (λ n. take n waits) z

  pub some-taken : (n : ℕ) → n ≡ min (joined s q) room → take n waits ≡ chosen s q
  unfolding chosen
  some-taken n e = ap (λ k. take k waits) e

-- ---- The gathered blocks are blocks, each once
pub gathered-once : (s : State) (q : ℕ) → NoDup (gathered s q)
unfolding gathered gather_from
gathered-once s q = nodup-keep _ _ (nodup-below s.shape.N)

-- ---- The written levels

module _ (c : Client) (m : List ℕ) (q : ℕ) (r : Run) (f : RunOf c m q r) where
  abbrev s : State
  s = state_of c m

  written_is : levels_of s q ≡ written_levels (shape_of c.shape) r.counter r.joined
  unfolding levels_of state_of view
  written_is = rw (f.counter, f.joined)

  -- t is the first of them
  pub first-level : 1 ≤ c.shape.l → get_or (levels_of s q) 0 0 ≡ r.top
  unfolding top_of state_of view
  first-level l = ap (λ ls. get_or ls 0 0) written_is ∙ written-top (shape_of c.shape) r.counter r.joined l f.low f.joins ∙ sym (f.top ∙ (λ i. top_level (shape_of c.shape) (sym f.counter i) (sym f.joined i)))

  -- they hold the blocks that are taken, and no more than the list
  pub levels-hold : 1 ≤ c.shape.l → c.shape.l ≤ 8 → (r.joined ≤ capacity (levels_of s q)) × (capacity (levels_of s q) < 192)
  levels-hold a b =
      let h = written-few (shape_of c.shape) r.counter r.joined a f.low f.joins in
      let p : 2 ^ (c.shape.l - 1) ≤ 2 ^ 7 = pow_mono {i = c.shape.l - 1} {j = 7} (omega arith) in
      rw written_is (omega (arith, h))

-- half their slots
pub limit_is : (n : ℕ) (ls : List ℕ) → n ≡ slot_count ls → n / 2 ≡ capacity ls
limit_is n ls e = omega (arith, slots-capacity ls)

-- they have room for the gathered blocks, or not
pub room-yes : (s : State) (q : ℕ) (l : List ℕ) → l ≡ gathered s q → length l ≤ capacity (levels_of s q) → possible s (rebuild q (levels_of s q)) ≡ true
unfolding possible
room-yes s q l e h = le-leb (length (gathered s q)) (capacity (levels_of s q)) (omega (arith, ap length e))

pub room-no : (s : State) (q n r : ℕ) (l : List ℕ) → Gathers (gathered s q) n r l → n ≡ capacity (levels_of s q) → n < r → possible s (rebuild q (levels_of s q)) ≡ false
unfolding possible
room-no s q n r l g e h = lt-leb (length (gathered s q)) (capacity (levels_of s q)) (omega (arith, g.more h))

-- draws take no more words than were lent: by this a test for fewer of them would be proved to answer no (must-fail/commands_and_words has a wrong one)
pub words_lent : (ms ws : List ℕ) (n : ℕ) → taken_of (draws ms ws) ≡ n → length ws < n → ⊥
words_lent ms ws n e l = omega (arith, e, l, taken-lent ms ws)
