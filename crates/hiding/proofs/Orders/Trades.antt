-- The first stage: the orders are hidden from the middle machine. What each of its calls trades.
use Rattle.std.specs.Prelude.{◌≡◌, refl, Bool, true, false, ◌&&◌, ◌↔◌, List, [], ◌∷◌, ℕ, zero, suc, ◌+◌, ◌-◌, ◌^◌, ◌<◌, length, get_or, replicate, take, drop, ltb, if◌then◌else◌}
use Rattle.std.proofs.Common.{ap, ◌∙◌, subst, arith, take-append-drop, pow_pos, ltb-true}
use Rattle.std.proofs.Math.Logic.Iff
use Rattle.std.proofs.Math.Option.{Option, none, some}
use Rattle.lists.specs.Members.{member-mem}
use Rattle.lists.specs.Tables.{put, put_all}
use Rattle.lists.specs.Distinct.{Mem}
use Rattle.lists.specs.Tests.{and_l, and_r}
use Rattle.lists.specs.All.{All, nil, cons, all_map, all_yes}
use Rattle.lists.specs.Search.{below, member, all}
use Rattle.rules.specs.Turn
use Rattle.rules.specs.Turn.{Step, idle, no_dummy, read_for_request, read_for_job, rebuild, write_next, step_bounds, do_step}
use Rattle.rules.specs.Draws.{new_order, order_bounds, Drew}
use Rattle.rules.specs.Jobs.{orders_bounds}
use Rattle.rules.proofs.Laws.Orders.{orders-split, append-drew, drew-length, length-bounds}
use Rattle.rules.specs.Request.{accept, is_source}
use Rattle.rules.specs.Rebuild.{new_places, new_marks, write_levels, leave}
use Rattle.rules.specs.Shape.{Shape, slots, cell}
use Rattle.rules.specs.State.{State, Command, Place, Request}
use Rattle.rules.specs.Completion.{complete}
use Rattle.matching.specs.Match.{join, rename}
use Rattle.matching.specs.Trades.{None, Trades}
use Rattle.matching.proofs.Trades.{stays, renamed, none-drew, in_turn}
use Rattle.matching.specs.Reads.{Arranges, less, Pick}
use Rattle.matching.proofs.SlotReads.{fetch, locate, pick-mem}
use Rattle.matching.specs.Keyed.{Key, update}
use Rattle.matching.proofs.Keyed.{update_same, update_other, trade_at}
use Rattle.matching.proofs.Order.{renew}
use Rattle.hiding.specs.Machines.Ideal.{LegalWrites, legal_step, legal_if, rebuild_p}
use Rattle.hiding.proofs.Unchanged.{Rest, rest_of, complete-rest}
use Rattle.hiding.specs.Machines.Public.{Later, later-request, later-turn, later-completion, later-collect, later-save, later-reload, hide, unread_in, planned_p, checked, is_nil, decide_p, bounds_p}
use Rattle.hiding.proofs.Orders.Unread.{unread-read, unread-written, nodup-unread}
use Rattle.hiding.specs.Machines.Middle.{Items, wanted, clamp, next_step_m, next_m, collected_m, gathered_m, chosen_m, fills_m}
use Rattle.hiding.specs.Machines.Rules.{Orders}

-- the orders that a state admits
abbrev pub HiddenOn : State → Orders → Type 0
HiddenOn s o = (k : Key) → Arranges (unread_in s.shape s.mark k) (o k)

abbrev pub bounds_if : ℕ → State → Later → List ℕ
bounds_if zero i l = bounds_p i l
bounds_if (suc n) i l = []

-- ---- what is known of a public step

abbrev pub OpenP : Shape → (ℕ → ℕ) → Step → Type 0
OpenP h mark idle = Unit {0}
OpenP h mark no_dummy = Unit {0}
OpenP h mark (read_for_request q ℓ x) = 0 < length (unread_in h mark (q, ℓ))
OpenP h mark (read_for_job q ℓ x) = Mem x (unread_in h mark (q, ℓ))
OpenP h mark (rebuild q ls) = (q < h.P) × All (λ ℓ. ℓ < h.L) ls
OpenP h mark (write_next q t x) = Unit {0}

open-checked : (s : State) (x : Step) → OpenP s.shape s.mark (checked s x)
unfolding checked is_nil
open-checked s idle = tt
open-checked s no_dummy = tt
open-checked s (read_for_request q ℓ x) = go (unread_in s.shape s.mark (q, ℓ)) refl
  where
    go : (U : List ℕ) → unread_in s.shape s.mark (q, ℓ) ≡ U → OpenP s.shape s.mark (if is_nil U then idle else read_for_request q ℓ x)
    go [] e = tt
    go (y ∷ U) e = rw e (omega arith)
open-checked s (read_for_job q ℓ x) = go (member x (unread_in s.shape s.mark (q, ℓ))) refl
  where
    go : (t : Bool) → member x (unread_in s.shape s.mark (q, ℓ)) ≡ t → OpenP s.shape s.mark (if t then read_for_job q ℓ x else idle)
    go true e = member-mem x _ e
    go false e = tt
open-checked s (rebuild q ls) = go (ltb q s.shape.P && all (λ ℓ. ltb ℓ s.shape.L) ls) refl
  where
    go : (b : Bool) → (ltb q s.shape.P && all (λ ℓ. ltb ℓ s.shape.L) ls) ≡ b → OpenP s.shape s.mark (if b then rebuild q ls else idle)
    go true e = (ltb-true q s.shape.P (and_l _ _ e), all_map (λ ℓ. ltb-true ℓ s.shape.L) (all_yes (λ ℓ. ltb ℓ s.shape.L) ls (and_r (ltb q s.shape.P) (all (λ ℓ. ltb ℓ s.shape.L) ls) e)))
    go false e = tt
open-checked s (write_next q t x) = tt

pub decide_p-open : (s : State) → OpenP s.shape s.mark (decide_p s)
unfolding decide_p
decide_p-open s = open-checked s (planned_p s)

-- ---- the trades, over marks

pub clamp-lt : (n k : ℕ) → 0 < n → clamp n k < n
unfolding clamp
clamp-lt n k h = go (ltb k n) refl
  where
    go : (t : Bool) → ltb k n ≡ t → (if t then k else 0) < n
    go true e = ltb-true k n e
    go false e = h

module _ (h : Shape) (mark : ℕ → ℕ) (q ℓ : ℕ) where
  abbrev pub unread_here : List ℕ
  unread_here = unread_in h mark (q, ℓ)

  abbrev pub Before : Key → List ℕ → Type 0
  Before j a = Arranges (unread_in h mark j) a

  abbrev pub AfterRead : ℕ → Key → List ℕ → Type 0
  AfterRead x j a = Arranges (unread_in h (put (cell h q ℓ x) 0 mark) j) a

  pub read_here : (x : ℕ) → Mem x unread_here → (a : List ℕ) → Arranges (less x unread_here) a ↔ AfterRead x (q, ℓ) a
  read_here x m a = rw (unread-read h mark q ℓ x m, update_same (q, ℓ) (less x unread_here) (unread_in h mark)) Iff.rfl

  pub read-rest : (x : ℕ) → Mem x unread_here → (j : Key) → ¬ (j ≡ (q, ℓ)) → (a : List ℕ) → Before j a ↔ AfterRead x j a
  read-rest x m j n a = rw (unread-read h mark q ℓ x m, update_other (q, ℓ) (less x unread_here) (unread_in h mark) j n) Iff.rfl

  -- a trade of all orders; what it leaves of them may depend on what is drawn
  abbrev pub OrdersTrade : (List ℕ → Type 0) → (List ℕ → Type 0) → (List ℕ → Key → List ℕ → Type 0) → Type 0
  OrdersTrade Drawn Legal After = Trades {D = List ℕ} {E = List ℕ} {H = Orders} (λ o. (j : Key) → Before j (o j)) Drawn Legal (λ e o. (j : Key) → After e j (o j))

  -- a request reads the item of rank clamp k: its slot is drawn
  abbrev pub request-trade : (k : ℕ) → 0 < length unread_here → OrdersTrade None (Pick unread_here) (λ e. AfterRead (get_or e 0 0))
  request-trade k l =
      trade_at (q, ℓ) Before (λ e. AfterRead (get_or e 0 0)) None (Pick unread_here) (λ e p. read-rest (get_or e 0 0) (pick-mem unread_here e p))
      (join (fetch unread_here (clamp (length unread_here) k) (nodup-unread h mark (q, ℓ)) (clamp-lt (length unread_here) k l))
      (rename (λ y p. (p.0, (read_here (get_or y.0 0 0) (pick-mem unread_here y.0 p.0) y.1).0 p.1))
      (λ y p. (p.0, (read_here (get_or y.0 0 0) (pick-mem unread_here y.0 p.0) y.1).1 p.1)) (λ y p. refl)))

  -- a job reads slot x: its place is drawn
  abbrev pub job-trade : (x : ℕ) → Mem x unread_here → OrdersTrade None (Drew (length unread_here ∷ [])) (λ e. AfterRead x)
  job-trade x m =
      trade_at (q, ℓ) Before (λ e. AfterRead x) None (Drew (length unread_here ∷ [])) (λ e p. read-rest x m)
      (join (locate x unread_here (nodup-unread h mark (q, ℓ)) m)
      (rename (λ y p. (p.0, (read_here x m y.1).0 p.1)) (λ y p. (p.0, (read_here x m y.1).1 p.1)) (λ y p. refl)))

  abbrev pub AfterWritten : Key → List ℕ → Type 0
  AfterWritten j a = Arranges (unread_in h (put_all (cell h q ℓ 0) (replicate (slots ℓ) 1) mark) j) a

  module _ (a : q < h.P) (b : ℓ < h.L) where
    pub written-here : (o : List ℕ) → Arranges (below (slots ℓ)) o ↔ AfterWritten (q, ℓ) o
    written-here o = rw (unread-written h mark q ℓ a b, update_same (q, ℓ) (below (slots ℓ)) (unread_in h mark)) Iff.rfl

    pub written-rest : (j : Key) → ¬ (j ≡ (q, ℓ)) → (o : List ℕ) → Before j o ↔ AfterWritten j o
    written-rest j n o = rw (unread-written h mark q ℓ a b, update_other (q, ℓ) (below (slots ℓ)) (unread_in h mark) j n) Iff.rfl

    -- a rebuild writes the level anew: what is left of its old order is drawn, and the new one is hidden
    abbrev pub rebuild-trade : OrdersTrade (Drew (order_bounds (slots ℓ))) (Arranges unread_here) (λ e. AfterWritten)
    rebuild-trade =
        trade_at (q, ℓ) Before (λ e. AfterWritten) (Drew (order_bounds (slots ℓ))) (Arranges unread_here) (λ e p. written-rest)
        (join (renew (slots ℓ) (pow_pos (ℓ + 1)) (Arranges unread_here))
        (rename (λ y p. (p.0, (written-here y.1).0 p.1)) (λ y p. (p.0, (written-here y.1).1 p.1)) (λ y p. refl)))

-- ---- a rebuild: one level after the other

abbrev pub HiddenAt : Shape → (ℕ → ℕ) → Orders → Type 0
HiddenAt h mark o = (j : Key) → Arranges (unread_in h mark j) (o j)

-- the marks after a level is written
abbrev pub marked : Shape → ℕ → ℕ → (ℕ → ℕ) → ℕ → ℕ
marked h q ℓ mark = put_all (cell h q ℓ 0) (replicate (slots ℓ) 1) mark

pub marks-none : (h : Shape) (q : ℕ) (mark : ℕ → ℕ) (o : Orders) → HiddenAt h mark o ↔ HiddenAt h (new_marks h q [] mark) o
unfolding new_marks write_levels
marks-none h q mark o = Iff.rfl

pub marks-more : (h : Shape) (q ℓ : ℕ) (ls : List ℕ) (mark : ℕ → ℕ) (o : Orders) → HiddenAt h (new_marks h q ls (marked h q ℓ mark)) o ↔ HiddenAt h (new_marks h q (ℓ ∷ ls) mark) o
unfolding new_marks write_levels
marks-more h q ℓ ls mark o = Iff.rfl

pub no-orders : (d : List ℕ) → Drew (orders_bounds []) d ↔ None d
unfolding orders_bounds
no-orders d = none-drew d

pub more-orders : (ℓ : ℕ) (ls d : List ℕ) → Drew (orders_bounds (ℓ ∷ ls)) d ↔ (Drew (order_bounds (slots ℓ)) (take (slots ℓ - 1) d) × Drew (orders_bounds ls) (drop (slots ℓ - 1) d))
more-orders ℓ ls d = (orders-split ℓ ls d, λ p. subst (λ x. Drew (orders_bounds (ℓ ∷ ls)) x) (take-append-drop (slots ℓ - 1) d) (unfold orders_bounds in (append-drew (order_bounds (slots ℓ)) (orders_bounds ls) (take (slots ℓ - 1) d) (drop (slots ℓ - 1) d) p.0 p.1)))

pub order-long : (ℓ : ℕ) (d : List ℕ) → Drew (order_bounds (slots ℓ)) d → length d ≡ slots ℓ - 1
order-long ℓ d p = drew-length (order_bounds (slots ℓ)) d p ∙ length-bounds (slots ℓ)

abbrev pub levels-trade : (h : Shape) (q : ℕ) → q < h.P → (ls : List ℕ) → All (λ ℓ. ℓ < h.L) ls → (mark : ℕ → ℕ) →
    Trades {D = List ℕ} {E = List ℕ} {H = Orders} (HiddenAt h mark) (Drew (orders_bounds ls)) (LegalWrites h q ls mark) (λ e. HiddenAt h (new_marks h q ls mark))
levels-trade h q a [] nil mark = stays no-orders (λ e o p. marks-none h q mark o)
levels-trade h q a (ℓ ∷ ls) (cons b t) mark =
    renamed (HiddenAt h mark) (LegalWrites h q (ℓ ∷ ls) mark) (more-orders ℓ ls) (λ e. marks-more h q ℓ ls mark)
    (in_turn (slots ℓ - 1) (length (unread_in h mark (q, ℓ))) (HiddenAt h mark) (HiddenAt h (marked h q ℓ mark)) (HiddenAt h (new_marks h q ls (marked h q ℓ mark)))
    (Drew (order_bounds (slots ℓ))) (Arranges (unread_in h mark (q, ℓ))) (Drew (orders_bounds ls)) (LegalWrites h q ls (marked h q ℓ mark))
    (order-long ℓ) (λ e p. p.0) (rebuild-trade h mark q ℓ a b) (levels-trade h q a ls t (marked h q ℓ mark)))

-- the orders after it: each level's is the one drawn
abbrev pub orders_after : ℕ → List ℕ → List ℕ → Orders → Orders
orders_after q [] d o = o
orders_after q (ℓ ∷ ls) d o = orders_after q ls (drop (slots ℓ - 1) d) (update (q, ℓ) (new_order (slots ℓ) (take (slots ℓ - 1) d)) o)

pub trade-orders : (h : Shape) (q : ℕ) (a : q < h.P) (ls : List ℕ) (t : All (λ ℓ. ℓ < h.L) ls) (mark : ℕ → ℕ) (o : Orders) (d : List ℕ) → ((levels-trade h q a ls t mark).f (o, d)).1 ≡ orders_after q ls d o
trade-orders h q a [] nil mark o d = refl
trade-orders h q a (ℓ ∷ ls) (cons b t) mark o d = trade-orders h q a ls t (marked h q ℓ mark) (update (q, ℓ) (new_order (2 ^ (ℓ + 1)) (take (2 ^ (ℓ + 1) - 1) d)) o) (drop (2 ^ (ℓ + 1) - 1) d)

-- ---- the trades of the middle machine's calls

-- a call that leaves the marks leaves the orders
pub untouched : (s s' : State) → s'.shape ≡ s.shape → s'.mark ≡ s.mark → (o : Orders) → HiddenOn s o ↔ HiddenOn s' o
untouched s s' a b o = rw (a, b) Iff.rfl

module _ (s : State) where
  pub read-state : (q ℓ x : ℕ) (o : Orders) → ((j : Key) → AfterRead s.shape s.mark q ℓ x j (o j)) ↔ HiddenOn (do_step (read_for_request q ℓ x) [] s) o
  unfolding do_step Turn.mark_read Turn.send
  read-state q ℓ x o = Iff.rfl

  pub job-state : (q ℓ x : ℕ) (o : Orders) → ((j : Key) → AfterRead s.shape s.mark q ℓ x j (o j)) ↔ HiddenOn (do_step (read_for_job q ℓ x) [] s) o
  unfolding do_step Turn.mark_read Turn.send
  job-state q ℓ x o = Iff.rfl

  pub rebuild-state : (q : ℕ) (ls : List ℕ) (place : ℕ → Place) (waiting : List ℕ) (o : Orders) →
      HiddenAt s.shape (new_marks s.shape q ls s.mark) o ↔ HiddenOn (rebuild_p q ls place waiting s) o
  unfolding rebuild_p Turn.send
  rebuild-state q ls place waiting o = Iff.rfl

  pub write-state : (q t x : ℕ) (o : Orders) → HiddenOn s o ↔ HiddenOn (do_step (write_next q t x) [] s) o
  unfolding do_step Turn.send
  write-state q t x o = Iff.rfl

  pub accept-state : (k b : ℕ) (bs e : List ℕ) (o : Orders) → HiddenOn s o ↔ HiddenOn (accept k b bs e s) o
  unfolding accept
  accept-state k b bs e o = Iff.rfl

  pub complete-state : (c : Command) (bs : List ℕ) (o : Orders) → HiddenOn s o ↔ HiddenOn (complete c bs s) o
  complete-state c bs o = untouched s (complete c bs s) (ap (λ (x : Rest). x.shape) e) (ap (λ (x : Rest). x.mark) e) o
    where
      e : rest_of (complete c bs s) ≡ rest_of s
      e = complete-rest s c bs

  pub collect-state : (r : Option Request) (o : Orders) → HiddenOn s o ↔ HiddenOn (collected_m r s) o
  unfolding collected_m
  collect-state none o = Iff.rfl
  collect-state (some r) o = Iff.rfl

  pub rebuild-step : (q : ℕ) (ls d : List ℕ) → Drew (step_bounds (rebuild q ls)) d ↔ Drew (orders_bounds ls) d
  unfolding step_bounds
  rebuild-step q ls d = Iff.rfl

-- the rank of the request's item
abbrev pub wanted_rank : State → Items → ℕ → ℕ → ℕ
wanted_rank s it q ℓ = wanted (is_source s q ℓ) s.request (it (q, ℓ))

-- every step but a rebuild draws nothing
abbrev pub Quiet : Step → Type 0
Quiet idle = Unit {0}
Quiet no_dummy = Unit {0}
Quiet (read_for_request q ℓ x) = Unit {0}
Quiet (read_for_job q ℓ x) = Unit {0}
Quiet (rebuild q ls) = ⊥
Quiet (write_next q t x) = Unit {0}

pub quiet : (x : Step) → Quiet x → (d : List ℕ) → Drew (step_bounds x) d ↔ None d
unfolding step_bounds
quiet idle u d = none-drew d
quiet no_dummy u d = none-drew d
quiet (read_for_request q ℓ x) u d = none-drew d
quiet (read_for_job q ℓ x) u d = none-drew d
quiet (rebuild q ls) u d = absurd u
quiet (write_next q t x) u d = none-drew d

abbrev pub trade_step : (s : State) (it : Items) (x : Step) → OpenP s.shape s.mark x →
    Trades {D = List ℕ} {E = List ℕ} {H = Orders} (HiddenOn s) (Drew (step_bounds x)) (legal_step (hide s) x) (λ e. HiddenOn (next_step_m s x e))
trade_step s it idle k = stays (quiet idle tt) (λ e o p. Iff.rfl)
trade_step s it no_dummy k = stays (quiet no_dummy tt) (λ e o p. Iff.rfl)
trade_step s it (read_for_request q ℓ x) k =
    renamed (HiddenOn s) (legal_step (hide s) (read_for_request q ℓ x)) (quiet (read_for_request q ℓ x) tt) (λ e. read-state s q ℓ (get_or e 0 0))
    (request-trade s.shape s.mark q ℓ (wanted_rank s it q ℓ) k)
trade_step s it (read_for_job q ℓ x) k =
    renamed (HiddenOn s) (legal_step (hide s) (read_for_job q ℓ x)) (quiet (read_for_job q ℓ x) tt) (λ e. job-state s q ℓ x)
    (job-trade s.shape s.mark q ℓ x k)
trade_step s it (rebuild q ls) k =
    renamed (HiddenOn s) (legal_step (hide s) (rebuild q ls)) (rebuild-step s q ls)
    (λ e. rebuild-state s q ls (new_places (fills_m ls (gathered_m s q)) s.place) (leave (chosen_m s q) s.waiting))
    (levels-trade s.shape q k.0 ls k.1 s.mark)
trade_step s it (write_next q t x) k = stays (quiet (write_next q t x) tt) (λ e o p. write-state s q t x o)

abbrev pub trade_if : (n : ℕ) (s : State) (it : Items) (l : Later) →
    Trades {D = List ℕ} {E = List ℕ} {H = Orders} (HiddenOn s) (Drew (bounds_if n (hide s) l)) (legal_if n (hide s) l) (λ e. HiddenOn (next_m n s l e))
trade_if (suc n) s it l = stays none-drew (λ e o p. Iff.rfl)
trade_if zero s it (later-request k b bs) = stays (λ d. Iff.rfl) (λ e o p. accept-state s k b bs e o)
trade_if zero s it later-turn = trade_step s it (decide_p (hide s)) (decide_p-open (hide s))
trade_if zero s it (later-completion c bs) = stays none-drew (λ e o p. complete-state s c bs o)
trade_if zero s it later-collect = stays none-drew (λ e o p. collect-state s s.request o)
trade_if zero s it later-save = stays none-drew (λ e o p. Iff.rfl)
trade_if zero s it (later-reload m n) = stays none-drew (λ e o p. Iff.rfl)
