-- The order's draws and exchanges, as the code counts them.
use Rattle.std.specs.Prelude.{◌≡◌, List, ◌∷◌, Option, Some, None, IsSome, ℕ, zero, suc, ◌+◌, ◌-◌, ◌%◌, ◌≤◌, ◌<◌, length, get_or, set, drop}
use Rattle.std.proofs.Math.Path.{refl, sym}
use Rattle.std.proofs.Common.{ap, ◌∙◌, length-set}
use native.Mathlib.Omega.{arith}
use Rattle.lists.specs.Distinct.{NoDup}
use Rattle.lists.specs.Lengths.{length-below}
use Rattle.lists.specs.Search.{below}
use Rattle.lists.specs.Tables.{put, put_all}
use Rattle.rules.specs.Draws.{draws, exchange, shuffle, new_order, order_bounds}
use Rattle.rules.specs.Run.{numbers_of, taken_of}
use Rattle.rules.specs.State.{State}
use Rattle.rules.specs.Setters.{set_order}
use Rattle.client.specs.declared.Client.{Client}
use Rattle.client.specs.View.{state_of}
use Rattle.client.specs.Moves.{Stands, restated}
use Rattle.rules.proofs.Laws.Orders.{order_bounds-pos, nodup-order, bounds-next, bounds-none}
use Rattle.rules.specs.Laws.Draws.{Enough}
use Rattle.rules.proofs.Laws.Kept.{drew-of}
use Rattle.rules.specs.Laws.Drawn.{SettledBy}
use Rattle.rules.proofs.Laws.Drawn.{settle-next, settle-taken}
use Rattle.tape.specs.Settled.{Settles, settled-end}
use Rattle.lists.specs.Entries.{put_all-at, put_in, put_all-over}
use Rattle.rebuild.specs.Steps.{stays, moved, ordered}

pub nodup-drawn : (n : ℕ) (ws : List ℕ) → 0 < n → Enough (order_bounds n) ws → NoDup (new_order n (numbers_of (draws (order_bounds n) ws)))
nodup-drawn n ws p h = nodup-order n _ p (drew-of (order_bounds n) ws (order_bounds-pos n) h)

-- one turn
shuffle-step : (i j : ℕ) (js o : List ℕ) → 0 < i → shuffle i (j ∷ js) o ≡ shuffle (i - 1) js (exchange o i j)
unfolding shuffle
shuffle-step zero j js o p = absurd (omega arith)
shuffle-step (suc i) j js o p = let d : suc i - 1 ≡ i = omega arith in rw d

pub shuffle-done : (i : ℕ) (js o : List ℕ) → i ≤ 0 → shuffle i js o ≡ o
unfolding shuffle
shuffle-done zero js o h = refl
shuffle-done (suc i) js o h = absurd (omega arith)

pub length-exchange : (o : List ℕ) (i j : ℕ) → length (exchange o i j) ≡ length o
unfolding exchange
length-exchange o i j = simp length-set

-- an exchange in the table
pub exchange-cells : (a : ℕ) (o : List ℕ) (f : ℕ → ℕ) (i j : ℕ) → i < length o → j < length o
    → put (a + j) (put_all a o f (a + i)) (put (a + i) (put_all a o f (a + j)) (put_all a o f)) ≡ put_all a (exchange o i j) f
unfolding exchange
exchange-cells a o f i j hi hj =
    let l : j < length (set o i (get_or o j 0)) = omega (arith, length-set o i (get_or o j 0)) in
    rw (put_all-at a o f i hi, put_all-at a o f j hj, put_in a o f i (get_or o j 0) hi) (put_in a (set o i (get_or o j 0)) f j (get_or o i 0) l)

-- ---- The loop: what the words from k on give for the items up to i, in the order that stands in the tables, gives the order drawn by those from word
-- `from` on

abbrev left : ℕ → ℕ → List ℕ → List ℕ
left i k ws = numbers_of (draws (order_bounds (i + 1)) (drop k ws))

pub record Drawing (c : Client) (m₀ m : List ℕ) (base n from i k : ℕ) (ws : List ℕ) : Type 0 where
  pub order : List ℕ
  pub long : length order ≡ n
  pub here : Stands c m₀ m (ordered base order (state_of c m₀))
  pub enough : Enough (order_bounds (i + 1)) (drop k ws)
  pub rest : shuffle i (left i k ws) order ≡ new_order n (numbers_of (draws (order_bounds n) (drop from ws)))
  pub taken : k + taken_of (draws (order_bounds (i + 1)) (drop k ws)) ≡ from + taken_of (draws (order_bounds n) (drop from ws))

module _ (c : Client) (m m₀ : List ℕ) (base n from : ℕ) (ws : List ℕ) (start : Stands c m m₀ (ordered base (below n) (state_of c m))) where
  again : (o : List ℕ) → length o ≡ n → ordered base o (state_of c m₀) ≡ ordered base o (state_of c m)
  again o l = ap (ordered base o) start.state ∙ ap (λ f. set_order f (state_of c m)) (put_all-over base o (state_of c m).order (below n) (length-below n ∙ sym l))

  pub drawing-start : 0 < n → Enough (order_bounds n) (drop from ws) → Drawing c m₀ m₀ base n from (n - 1) from ws
  unfolding new_order
  drawing-start p h =
      let z : n - 1 + 1 ≡ n = omega arith in
      record {
        order = below n;
        long = length-below n;
        here = restated (stays c m₀) (start.state ∙ sym (again (below n) (length-below n)));
        enough = rw z h;
        rest = rw z;
        taken = rw z;
      }

  pub drawing-done : (m' : List ℕ) (i k : ℕ) → i ≤ 0 → Drawing c m₀ m' base n from i k ws → Stands c m m' (ordered base (new_order n (numbers_of (draws (order_bounds n) (drop from ws)))) (state_of c m))
  drawing-done m' i k l d =
      let e = sym (shuffle-done i _ d.order l) ∙ d.rest in
      rw (← e) (record { state = d.here.state ∙ again d.order d.long; tail = d.here.tail ∙ start.tail })

  pub drawing-taken : (m' : List ℕ) (i k : ℕ) → i ≤ 0 → Drawing c m₀ m' base n from i k ws → k ≡ from + taken_of (draws (order_bounds n) (drop from ws))
  drawing-taken m' i k l d = omega (arith, d.taken, none)
    where
      none : taken_of (draws (order_bounds (i + 1)) (drop k ws)) ≡ 0
      none = ap (λ bs. taken_of (draws bs (drop k ws))) (bounds-none (i + 1) (omega arith)) ∙ unfold draws taken_of in refl

module _ (c : Client) (m₀ m : List ℕ) (base n from i k : ℕ) (ws : List ℕ) (p : 0 < i) (d : Drawing c m₀ m base n from i k ws) where
  -- the draw below i + 1, and those that are left after it
  bounds-is : order_bounds (i + 1) ≡ (i + 1) ∷ order_bounds i
  bounds-is = let e : i + 1 - 1 ≡ i = omega arith in bounds-next (i + 1) (omega arith) ∙ ap (λ a. (i + 1) ∷ order_bounds a) e

  settled-next : (r : ℕ) → SettledBy (i + 1) ws k r → (r < length ws) × Enough (order_bounds i) (drop (r + 1) ws) × (left i k ws ≡ (get_or ws r 0 % (i + 1)) ∷ numbers_of (draws (order_bounds i) (drop (r + 1) ws)))
  settled-next r x = rw bounds-is (settle-next (i + 1) (order_bounds i) ws k r x (rw (← bounds-is) d.enough))

  -- some word settles it
  pub drawn-some : (o : Option ℕ) → Settles (i + 1) ws k o → IsSome o
  drawn-some (Some r) x = refl
  drawn-some None x = absurd (omega (arith, (settled-next _ (settled-end (i + 1) ws k x)).0))

  pub drawing-step : (r : ℕ) → SettledBy (i + 1) ws k r → (m' : List ℕ) (j : ℕ) → i < n → j < n → j ≡ get_or ws r 0 % (i + 1)
      → Stands c m m' (set_order (put (base + j) ((state_of c m).order (base + i)) (put (base + i) ((state_of c m).order (base + j)) (state_of c m).order)) (state_of c m))
      → Drawing c m₀ m' base n from (i - 1) (r + 1) ws
  drawing-step r x m' j l h w y =
      let next = settled-next r x in
      let F : State → State = λ s. set_order (put (base + j) (s.order (base + i)) (put (base + i) (s.order (base + j)) s.order)) s in
      let e : i - 1 + 1 ≡ i = omega arith in
      record {
        order = exchange d.order i j;
        long = length-exchange d.order i j ∙ d.long;
        here = rw (← exchange-cells base d.order (state_of c m₀).order i j (rw d.long l) (rw d.long h)) (moved c m₀ m m' _ F d.here y);
        enough = rw e next.1;
        rest = rw (e, w) (sym (shuffle-step i (get_or ws r 0 % (i + 1)) _ d.order p) ∙ ap (λ js. shuffle i js d.order) (sym next.2) ∙ d.rest);
        taken = rw e (settle-taken (i + 1) (order_bounds i) ws k r x (rw (← bounds-is) d.enough) ∙ ap (λ bs. k + taken_of (draws bs (drop k ws))) (sym bounds-is) ∙ d.taken);
      }
