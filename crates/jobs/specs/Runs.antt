-- The jobs that run together as the front one.
use Rattle.std.specs.Prelude.{◌≡◌, List, ◌∷◌, ℕ, suc, ◌^◌, ◌≤◌, ◌<◌}
use Rattle.std.proofs.Math.Path.{ap, sym}
use Rattle.std.proofs.Common.{◌∙◌, arith, pow_pos}
use Rattle.rules.specs.State.{State}
use Rattle.lists.specs.Search.{keep}
use Rattle.rules.specs.Levels.{filled, joins, grown, top_level, down, written_levels}
use Rattle.rules.specs.Jobs.{queued, begun_with, joined, top_of, levels_of}
use Rattle.rules.specs.Laws.Levels.{Joins}
use Rattle.rules.proofs.Laws.Levels.{joined_in}
use Rattle.bits.specs.Runs.{Together, together}
use Rattle.memory.specs.Tables.{tables_of}
use Rattle.memory.specs.Fits.{shape_of, fit, fit-lt}
use Rattle.client.specs.declared.Client.{Client}
use Rattle.client.specs.View.{state_of, view}
use Rattle.client.specs.Readings.{jobs-count}
use Rattle.client.specs.Moves.{Room}
use Rattle.client.specs.Rows.{drop_at}
use Rattle.jobs.specs.declared.Run.{Run}

-- k is the counter of q
abbrev pub CounterOf : Client → List ℕ → ℕ → ℕ → Type 0
CounterOf c m q k = k ≡ fit (2 ^ c.shape.l) ((tables_of (shape_of c.shape) m).counter q)

-- the front job is for q, and its numbers are in range
pub record Runs (c : Client) (m : List ℕ) (q : ℕ) : Type 0 where
  pub room : Room c m
  pub jobs : c.jobs ≤ 64
  pub partition : q < c.shape.p
  pub front : (state_of c m).queue ≡ q ∷ drop_at 0 (state_of c m).queue
  pub begun : c.begun ≤ 64

-- What runs
pub record RunOf (c : Client) (m : List ℕ) (q : ℕ) (r : Run) : Type 0 where
  pub counter : r.counter ≡ (state_of c m).counter q
  pub joined : r.joined ≡ joined (state_of c m) q
  pub top : r.top ≡ top_of (state_of c m) q
  pub low : r.counter < 2 ^ c.shape.l
  pub joins : Joins (shape_of c.shape) r.counter r.joined
  pub level : r.top < c.shape.l

module _ (c : Client) (m : List ℕ) (q : ℕ) where
  abbrev s : State
  s = state_of c m

  counter-as : (k : ℕ) → CounterOf c m q k → s.counter q ≡ k
  unfolding state_of view
  counter-as k e = sym e

  pub counter-lt : (k : ℕ) → CounterOf c m q k → k < 2 ^ c.shape.l
  counter-lt k e = rw e (fit-lt (2 ^ c.shape.l) _ (pow_pos c.shape.l))

  -- how many they are, of the n that the front one began with or would begin with
  pub joined_is : (k n j : ℕ) → CounterOf c m q k → n ≡ begun_with c.begun (queued s.queue q) → j ≡ joins (shape_of c.shape) k n → j ≡ joined s q
  unfolding joined state_of view
  joined_is k n j e a b = b ∙ ap (joins (shape_of c.shape) k) a ∙ ap (λ x. joins (shape_of c.shape) x (begun_with c.begun (queued s.queue q))) e

  module _ (f : Runs c m q) (k j : ℕ) (e : CounterOf c m q k) (a : j ≡ joined s q) where
    pub run-joins : Joins (shape_of c.shape) k j
    unfolding state_of view
    run-joins = rw (a, ← counter-as k e) (joined_in s q (drop_at 0 s.queue) f.front (rw (counter-as k e) (counter-lt k e)) (omega (arith, jobs-count c m, f.jobs)) f.begun)

    pub run-top : (t : ℕ) → t ≡ top_level (shape_of c.shape) k j → t ≡ top_of s q
    unfolding top_of state_of view
    run-top t b = b ∙ ap (λ x. top_level (shape_of c.shape) x j) (sym (counter-as k e)) ∙ ap (top_level (shape_of c.shape) (s.counter q)) a

-- the levels that it writes, where the counter is `next` after it
pub levels-are : (c : Client) (m : List ℕ) (q : ℕ) (r : Run) (next : ℕ) → RunOf c m q r → next ≡ grown (shape_of c.shape) r.counter r.joined → levels_of (state_of c m) q ≡ keep (filled next) (down (suc r.top))
unfolding levels_of written_levels top_of state_of view
levels-are c m q r next f e = rw (e, f.top, f.counter, f.joined)

-- the counter and the jobs of a run are such that the code computes with them
pub run-together : (c : Client) (m : List ℕ) (q : ℕ) (r : Run) → RunOf c m q r → Together c.shape.l r.counter r.joined
run-together c m q r f = together (shape_of c.shape) r.counter r.joined f.low f.joins
