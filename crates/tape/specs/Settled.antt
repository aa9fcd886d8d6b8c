-- The words that settle draws, counted.
use Rattle.std.specs.Prelude.{◌≡◌, true, false, List, [], ◌∷◌, ◌++◌, ℕ, zero, suc, ◌+◌, ◌-◌, ◌≤◌, ◌<◌, length, get_or, Option, Some, None}
use Rattle.std.proofs.Common.{subst, arith, add-one}
use Rattle.std.proofs.Math.Option.{none}
use Rattle.std.proofs.Math.Decide.{ℕ_discrete}
use Rattle.lists.specs.Search.{keep, keep-yes, keep-no}
use Rattle.rules.specs.Shape.{slots}
use Rattle.rules.specs.Levels.{filled, down}
use Rattle.rules.specs.Jobs.{orders_bounds}
use Rattle.rules.specs.Draws.{limit, draws, order_bounds}
use Rattle.rules.specs.Run.{taken_of}
use Rattle.rules.specs.Laws.Draws.{Enough}
use Rattle.rules.proofs.Laws.Grown.{down-next}
use Rattle.rules.proofs.Laws.Orders.{bounds-next, bounds-none}
use Rattle.rules.specs.Laws.Drawn.{SettledBy, Reaches}
use Rattle.rules.proofs.Laws.Drawn.{draws-end, reaches-start, reaches-next, reaches-none, reaches_end}

-- n words settle the draws below ms, passed ones counted; or the words end before the last draw is settled
abbrev pub Counts : List ℕ → List ℕ → Option ℕ → Type 0
Counts ms ws (Some n) = Enough ms ws × (taken_of (draws ms ws) ≡ n)
Counts ms ws None = draws ms ws ≡ none

-- ---- One draw

-- the words from k up to i are passed over
pub record Passing (m : ℕ) (ws : List ℕ) (k i : ℕ) : Type 0 where
  pub from : k ≤ i
  pub passed : (j : ℕ) → k ≤ j → j < i → (j < length ws) × (limit m ≤ get_or ws j 0)

pub passing-none : (m : ℕ) (ws : List ℕ) (k : ℕ) → Passing m ws k k
passing-none m ws k = record { from = omega arith; passed = λ j a b. absurd (omega arith) }

pub passing-more : {m : ℕ} {ws : List ℕ} {k i : ℕ} → Passing m ws k i → i < length ws → limit m ≤ get_or ws i 0 → Passing m ws k (i + 1)
passing-more {m = m} {ws = ws} {k = k} {i = i} x l h = record { from = omega (arith, x.from); passed = λ j a b. go j (ℕ_discrete j i) a b }
  where
    go : (j : ℕ) → Dec (j ≡ i) → k ≤ j → j < i + 1 → (j < length ws) × (limit m ≤ get_or ws j 0)
    go j (yes e) a b = rw e (l, h)
    go j (no e) a b = x.passed j a (omega arith)

-- word r settles a draw below m that goes over the words from k on; or none of them does
abbrev pub Settles : ℕ → List ℕ → ℕ → Option ℕ → Type 0
Settles m ws k (Some r) = (r < length ws) × SettledBy m ws k r
Settles m ws k None = (j : ℕ) → k ≤ j → j < length ws → limit m ≤ get_or ws j 0

pub passing-settled : {m : ℕ} {ws : List ℕ} {k r : ℕ} → Passing m ws k r → r < length ws → get_or ws r 0 < limit m → Settles m ws k (Some r)
passing-settled x l t = (l, record { from = x.from; passed = x.passed; taken = λ _. t })

-- if none does, they all are passed over, up to their end
pub settled-end : (m : ℕ) (ws : List ℕ) (k : ℕ) → Settles m ws k None → SettledBy m ws k (k + (length ws - k))
settled-end m ws k x = record { from = omega arith; passed = λ j a b. let l : j < length ws = omega arith in (l, x j a l); taken = λ h. absurd (omega arith) }

-- ---- The draws of an order, from word k on

-- they go to word r, and any draws behind them go on from there; or the words end before
abbrev pub OrderTo : ℕ → List ℕ → ℕ → Option ℕ → Type 0
OrderTo n ws k (Some r) = (r ≤ length ws) × ((ms ns : List ℕ) → Reaches ms ws (order_bounds n ++ ns) k → Reaches ms ws ns r)
OrderTo n ws k None = (ms ns : List ℕ) → Reaches ms ws (order_bounds n ++ ns) k → draws ms ws ≡ none

-- those that are left are below b, b − 1, .., 2, from word i on
pub record Counting (n : ℕ) (ws : List ℕ) (k b i : ℕ) : Type 0 where
  pub lent : i ≤ length ws
  pub left : (ms ns : List ℕ) → Reaches ms ws (order_bounds n ++ ns) k → Reaches ms ws (order_bounds b ++ ns) i

module _ (n : ℕ) (ws : List ℕ) (k : ℕ) where
  pub counting-start : k ≤ length ws → Counting n ws k n k
  counting-start l = record { lent = l; left = λ ms ns x. x }

  module _ (b i : ℕ) (l : 1 < b) (x : Counting n ws k b i) where
    first : (ms ns : List ℕ) → Reaches ms ws (order_bounds n ++ ns) k → Reaches ms ws (b ∷ (order_bounds (b - 1) ++ ns)) i
    first ms ns z = subst (λ bs. Reaches ms ws (bs ++ ns) i) (bounds-next b l) (x.left ms ns z)

    pub counting-next : (r : ℕ) → Settles b ws i (Some r) → Counting n ws k (b - 1) (r + 1)
    counting-next r y = record { lent = omega (arith, y.0); left = λ ms ns z. rw (add-one r) (reaches-next ms ws b (order_bounds (b - 1) ++ ns) i r (first ms ns z) y.1 y.0) }

    pub counting-ends : Settles b ws i None → OrderTo n ws k None
    counting-ends y = λ ms ns z. reaches-none ms ws (b ∷ (order_bounds (b - 1) ++ ns)) i (first ms ns z) (draws-end b (order_bounds (b - 1) ++ ns) ws i _ (settled-end b ws i y) (omega arith))

  pub counting-done : (b i : ℕ) → b ≤ 1 → Counting n ws k b i → OrderTo n ws k (Some i)
  counting-done b i l x = (x.lent, λ ms ns z. rw (bounds-none b l) at (x.left ms ns z))

-- ---- The orders of levels, highest first

-- those of level l, if it is filled in `next`, and of the levels behind it
abbrev pub LevelTo : ℕ → ℕ → List ℕ → ℕ → Option ℕ → Type 0
LevelTo next l ws k (Some r) =
    (r ≤ length ws) × ((ms ls : List ℕ) → Reaches ms ws (orders_bounds (keep (filled next) (l ∷ ls))) k → Reaches ms ws (orders_bounds (keep (filled next) ls)) r)
LevelTo next l ws k None = (ms ls : List ℕ) → Reaches ms ws (orders_bounds (keep (filled next) (l ∷ ls))) k → draws ms ws ≡ none

module _ (next l : ℕ) (ws : List ℕ) (k : ℕ) where
  pub level-empty : filled next l ≡ false → k ≤ length ws → LevelTo next l ws k (Some k)
  level-empty e h = (h, λ ms ls z. rw (keep-no (filled next) l ls e) at z)

  pub level-filled : (r : Option ℕ) → filled next l ≡ true → OrderTo (slots l) ws k r → LevelTo next l ws k r
  level-filled r e = go r
    where
      first : (ms ls : List ℕ) → Reaches ms ws (orders_bounds (keep (filled next) (l ∷ ls))) k → Reaches ms ws (order_bounds (slots l) ++ orders_bounds (keep (filled next) ls)) k
      first ms ls z = unfold orders_bounds in (rw (keep-yes (filled next) l ls e) at z)

      go : (r : Option ℕ) → OrderTo (slots l) ws k r → LevelTo next l ws k r
      go (Some r) x = (x.0, λ ms ls z. x.1 ms (orders_bounds (keep (filled next) ls)) (first ms ls z))
      go None x = λ ms ls z. x ms (orders_bounds (keep (filled next) ls)) (first ms ls z)

-- the levels below l are left, from word k on
pub record Levels (next top : ℕ) (ws : List ℕ) (l k : ℕ) : Type 0 where
  pub lent : k ≤ length ws
  pub left : Reaches (orders_bounds (keep (filled next) (down (suc top)))) ws (orders_bounds (keep (filled next) (down l))) k

module _ (next top : ℕ) (ws : List ℕ) where
  abbrev bounds : List ℕ
  bounds = orders_bounds (keep (filled next) (down (suc top)))

  pub levels-start : Levels next top ws (top + 1) 0
  levels-start = record { lent = omega arith; left = rw (add-one top) (reaches-start bounds ws) }

  module _ (l k : ℕ) (p : 0 < l) (x : Levels next top ws l k) where
    highest : Reaches bounds ws (orders_bounds (keep (filled next) ((l - 1) ∷ down (l - 1)))) k
    highest = subst (λ ls. Reaches bounds ws (orders_bounds (keep (filled next) ls)) k) (down-next l p) x.left

    pub levels-next : (r : ℕ) → LevelTo next (l - 1) ws k (Some r) → Levels next top ws (l - 1) r
    levels-next r y = record { lent = y.0; left = y.1 bounds (down (l - 1)) highest }

    pub levels-end : LevelTo next (l - 1) ws k None → Counts bounds ws None
    levels-end y = y bounds (down (l - 1)) highest

  pub levels-done : (l k : ℕ) → l ≤ 0 → Levels next top ws l k → Counts bounds ws (Some k)
  levels-done l k h x = reaches_end bounds ws k (empty l h x.left)
    where
      empty : (l : ℕ) → l ≤ 0 → Reaches bounds ws (orders_bounds (keep (filled next) (down l))) k → Reaches bounds ws [] k
      empty zero h z = unfold down keep orders_bounds in z
      empty (suc l) h z = absurd (omega arith)
