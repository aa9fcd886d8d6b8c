-- The first stage: the rules' machine is the middle machine with the orders hidden.
use Rattle.std.specs.Prelude.{◌≡◌, Bool, true, false, ◌&&◌, ◌↔◌, List, [], ◌∷◌, ℕ, zero, suc, replicate, ltb, if◌then◌else◌}
use Rattle.std.proofs.Math.Path.{refl, fun_ext}
use Rattle.std.proofs.Common.{sym, ◌∙◌}
use Rattle.std.proofs.Math.Logic.Iff
use Rattle.std.proofs.lemmas.List.{length-replicate}
use Rattle.std.proofs.Math.Dec.{eqb}
use Rattle.lists.specs.Search
use Rattle.lists.specs.Search.{keep}
use Rattle.lists.specs.All.{all_replicate}
use Rattle.rules.proofs.Laws.Answers.{accepted-passed}
use Rattle.rules.specs.Questions.{bounds, first_no, number, questions}
use Rattle.rules.specs.Shape.{Shape, within}
use Rattle.rules.specs.State.{State, closed}
use Rattle.rules.specs.Draws.{Drew}
use Rattle.rules.proofs.Laws.Bounds.{Few, enough-zeros, partitions-few}
use Rattle.rules.specs.Open.{fresh}
use Rattle.matching.proofs.Deferred.{Trade, full}
use Rattle.matching.specs.Reads.{Arranges}
use Rattle.matching.specs.Machine.{Machine}
use Rattle.matching.specs.Keyed.{Key}
use Rattle.matching.proofs.TwoLists.{Stage, Any}
use Rattle.matching.specs.Trades.{None, Trades}
use Rattle.matching.proofs.Trades.{stays, telling, none-drew}
use Rattle.hiding.specs.Machines.Ideal.{seen_if, Seen, legal_if, closes, lacking, nothing_sent}
use Rattle.hiding.specs.Machines.Middle
use Rattle.hiding.specs.Machines.Middle.{forget, Mid, Items, on_m, bounds_open, mid, mid-legal, mid-next, mid-seen}
use Rattle.hiding.proofs.Orders.Trades.{HiddenOn, bounds_if, trade_if}
use Rattle.hiding.proofs.Orders.Number.{bounds-hide, number-hide}
use Rattle.hiding.specs.Machines.Rules.{Real, unopened, shut, on, real, real-legal, real-next, real-seen, number_r, bounds_r, seen_r, open_call, Orders, items_in, items_of, orders_of, view, open_r, off, on_r}
use Rattle.hiding.specs.Machines.Public.{Later, Entry, first, later, public_later, hide, open_in, number_p, number_open}
use Rattle.hiding.proofs.Orders.Follows.{call-follows, follows-view}
use Rattle.hiding.specs.Machines.Needs.{Reachable}

-- ---- the start

open_none : (h : Shape) (xs : Key → List ℕ) (k : Key) → open_in h (λ c. 0) xs k ≡ []
unfolding open_in
open_none h xs k = go (ltb k.0 h.P && ltb k.1 h.L) (xs k)
  where
    none_kept : (l : List ℕ) → keep (λ i. eqb 0 1) l ≡ []
    none_kept [] = unfold keep in refl
    none_kept (x ∷ l) = Search.keep-no (λ i. eqb 0 1) x l refl ∙ none_kept l

    go : (t : Bool) (l : List ℕ) → (if t then keep (λ i. eqb 0 1) l else []) ≡ []
    go true l = none_kept l
    go false l = refl

orders-fresh : (h : Shape) (js : List ℕ) → orders_of (fresh h js) ≡ (λ (k : Key). [])
unfolding fresh
orders-fresh h js = fun_ext (λ k. open_none h _ k)

items-fresh : (h : Shape) (js : List ℕ) → items_of (fresh h js) ≡ (λ (k : Key). [])
unfolding fresh items_in
items-fresh h js = fun_ext (λ k. rw (open_none h _ k))

abbrev pub Empty : Orders → Type 0
Empty o = (k : Key) → Arranges [] (o k)

pub fresh-hidden : (h : Shape) (js : List ℕ) (o : Orders) → Empty o ↔ HiddenOn (forget (fresh h js)) o
unfolding fresh
fresh-hidden h js o = (λ a k. rw (open_none h _ k) (a k), λ a k. rw (open_none h _ k) at (a k))

pub open-number : (h : Shape) (m w : ℕ) → number closed (open_call h m w) ≡ number_open h m w
unfolding number questions bounds number_open first_no
open-number h m w = go (within h) refl
  where
    go : (t : Bool) → within h ≡ t → number closed (open_call h m w) ≡ number_open h m w
    go true e = rw (enough-zeros (replicate h.N h.P) (all_replicate Few h.N h.P (partitions-few h e)) w) (simp length-replicate)
    go false e = rw e

-- ---- the stage

module _ (h : Shape) (reach : Reachable h) where
  abbrev pub Hidden₁ : Mid → Orders → Type 0
  Hidden₁ Middle.unopened o = Empty o
  Hidden₁ Middle.shut o = Empty o
  Hidden₁ (Middle.on s it) o = HiddenOn s o
  Hidden₁ (Middle.off s it) o = HiddenOn s o

  abbrev pub Drawn₁ : Mid → Entry → List ℕ → Type 0
  Drawn₁ Middle.unopened (first m w) d = Drew (bounds_open h (number_open h m w)) d
  Drawn₁ Middle.unopened (later l m w n) d = None d
  Drawn₁ Middle.shut c d = None d
  Drawn₁ (Middle.off s it) c d = None d
  Drawn₁ (Middle.on s it) (first m w) d = None d
  Drawn₁ (Middle.on s it) (later l m w n) d = Drew (bounds_if (number_p (hide s) (public_later h l) m w n) (hide s) l) d

  abbrev pub Base₁ : Mid → Entry → Type 0
  Base₁ m c = Trades {D = List ℕ} {E = List ℕ} {H = Orders} (Hidden₁ m) (Drawn₁ m c) (mid-legal h m c) (λ e. Hidden₁ (mid-next h m c e))

  abbrev pub start₁ : (n : ℕ) → Trades {D = List ℕ} {E = List ℕ} {H = Orders} Empty (Drew (bounds_open h n)) (Drew (bounds_open h n)) (λ e. Hidden₁ (Middle.open_m h n e))
  start₁ zero = stays (λ d. Iff.rfl) (λ d o p. fresh-hidden h d o)
  start₁ (suc n) = stays (λ d. Iff.rfl) (λ d o p. Iff.rfl)

  -- a refused load hides what was hidden
  pub closed-hidden : (t : Bool) (s : State) (it : Items) (o : Orders) → HiddenOn s o ↔ Hidden₁ (if t then Middle.off s it else Middle.on s it) o
  closed-hidden true s it o = Iff.rfl
  closed-hidden false s it o = Iff.rfl

  abbrev pub base_if : (n : ℕ) (s : State) (it : Items) (l : Later) →
      Trades {D = List ℕ} {E = List ℕ} {H = Orders} (HiddenOn s) (Drew (bounds_if n (hide s) l)) (legal_if n (hide s) l) (λ e. Hidden₁ (on_m n s it l e))
  base_if zero s it l = trade_if zero s it l
  base_if (suc n) s it l = stays none-drew (λ e o p. closed-hidden (closes l) s it o)

  abbrev pub base₁ : (m : Mid) (c : Entry) → Base₁ m c
  base₁ Middle.unopened (first m w) = start₁ (number_open h m w)
  base₁ Middle.unopened (later l m w n) = stays (λ d. Iff.rfl) (λ d o p. Iff.rfl)
  base₁ Middle.shut c = stays (λ d. Iff.rfl) (λ d o p. Iff.rfl)
  base₁ (Middle.off s it) c = stays (λ d. Iff.rfl) (λ d o p. Iff.rfl)
  base₁ (Middle.on s it) (first m w) = stays (λ d. Iff.rfl) (λ d o p. Iff.rfl)
  base₁ (Middle.on s it) (later l m w n) = base_if (number_p (hide s) (public_later h l) m w n) s it l

  abbrev pub shown₁ : Mid → Orders → Entry → List ℕ → Seen
  shown₁ m o c d = mid-seen h m c ((base₁ m c).f (o, d)).0

  abbrev pub trade₁ : (m : Mid) (c : Entry) → Trade (mid h) Any Hidden₁ Drawn₁ shown₁ m c
  trade₁ m c = telling (Any m) (Hidden₁ m) (Drawn₁ m c) (mid-legal h m c) (λ e. Hidden₁ (mid-next h m c e)) (base₁ m c) (mid-seen h m c)

  abbrev pub Reach : Real → Type 0
  Reach unopened = Unit
  Reach shut = Unit
  Reach (on s) = reach.Holds s
  Reach (off s) = Unit

  abbrev pub Rel₁ : Real → Mid × Orders → Type 0
  Rel₁ r q = (q ≡ view r) × Reach r

  pub legal₁ : (r : Real) (c : Entry) (d : List ℕ) → Reach r → real-legal h r c d ↔ Drawn₁ (view r).0 c d
  legal₁ unopened (first m w) d k = rw (open-number h m w) Iff.rfl
  legal₁ unopened (later l m w n) d k = Iff.rfl
  legal₁ shut c d k = Iff.rfl
  legal₁ (off s) c d k = Iff.rfl
  legal₁ (on s) (first m w) d k = Iff.rfl
  legal₁ (on s) (later l m w n) d k = rw (number-hide h reach s k l m w n) (go (number_p (hide s) (public_later h l) m w n))
    where
      go : (j : ℕ) → Drew (bounds_r j s l) d ↔ Drew (bounds_if j (hide s) l) d
      go zero = rw (bounds-hide h reach s k l) Iff.rfl
      go (suc j) = Iff.rfl

  abbrev pub full₁ : Machine Entry (List ℕ) Seen
  full₁ = full (mid h) Any Hidden₁ Drawn₁ shown₁ (λ m c e i p. tt) trade₁

  step-on : (s : State) (l : Later) (m w n : ℕ) (d : List ℕ) (k : reach.Holds s) → HiddenOn (forget s) (orders_of s) → (j : ℕ) → number_r s l m w n ≡ j → Drew (bounds_r j s l) d →
      let y = (base_if j (forget s) (items_of s) l).f (orders_of s, d) in
      (seen_r j s l ≡ seen_if j (hide s) l y.0)
      × (((on_m j (forget s) (items_of s) l y.0, y.1) ≡ view (on_r j s l d)) × Reach (on_r j s l d))
  step-on s l m w n d k hid zero e b =
      let f = call-follows h reach s k hid d zero l m w n e b in
      (f.0, (sym (follows-view _ _ _ _ f.1), reach.kept s l m w n d k e b))
  step-on s l m w n d k hid (suc j) e b = (λ i. (suc j, lacking (suc j) (bounds-hide h reach s k l i), nothing_sent), go (closes l))
    where
      go : (t : Bool) → (((if t then Middle.off (forget s) (items_of s) else Middle.on (forget s) (items_of s)), orders_of s) ≡ view (if t then off s else on s)) × Reach (if t then off s else on s)
      go true = (refl, tt)
      go false = (refl, k)

  step-open : (d : List ℕ) (j : ℕ) → (j ≡ 0 → within h ≡ true) → Drew (bounds_open h j) d →
      let y = (start₁ j).f (λ (k : Key). [], d) in
      Rel₁ (open_r h j d) (Middle.open_m h j y.0, y.1)
  step-open d zero i b =
      let a = sym (items-fresh h d) in
      let c = sym (orders-fresh h d) in
      (λ j. (Middle.on (forget (fresh h d)) (a j), c j), reach.start d (i refl) b)
  step-open d (suc j) i b = (refl, tt)

  opened : (m w : ℕ) → number closed (open_call h m w) ≡ 0 → within h ≡ true
  unfolding questions
  opened m w e = (accepted-passed closed (open_call h m w) e).0

  pub step₁ : (r : Real) (c : Entry) (d : List ℕ) → Reach r → Hidden₁ (view r).0 (view r).1 → real-legal h r c d →
      (real-seen h r c d ≡ shown₁ (view r).0 (view r).1 c d) × Rel₁ (real-next h r c d) (full₁.next (view r) c d)
  step₁ unopened (first m w) d k hid p =
      let e = open-number h m w in
      rw e (refl, step-open d (number_open h m w) (λ z. opened m w (e ∙ z)) (rw e at p))
  step₁ unopened (later l m w n) d k hid p = (refl, (refl, tt))
  step₁ shut c d k hid p = (refl, (refl, tt))
  step₁ (off s) c d k hid p = (refl, (refl, tt))
  step₁ (on s) (first m w) d k hid p = (refl, (refl, k))
  step₁ (on s) (later l m w n) d k hid p =
      let e = number-hide h reach s k l m w n in
      rw e (step-on s l m w n d k hid (number_p (hide s) (public_later h l) m w n) e (rw e at p))

  -- The first stage
  abbrev pub first-stage : Stage (real h) (mid h) Orders
  first-stage = record {
    Inv = Any;
    Hidden = Hidden₁;
    Drawn = Drawn₁;
    shown = shown₁;
    keep = λ m c e i p. tt;
    trade = trade₁;
    Rel = Rel₁;
    legal = λ r q c d e. rw e.0 (legal₁ r c d e.1);
    step = λ r q c d e i k p. rw e.0 (step₁ r c d e.1 (rw e.0 at k) p);
  }
