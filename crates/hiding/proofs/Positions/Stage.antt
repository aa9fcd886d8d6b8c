-- The second stage: the middle machine is the ideal one with the positions hidden, of the request's block already its next one.
use Rattle.std.specs.Prelude.{◌≡◌, Bool, ◌↔◌, length, replicate, eqb, ltb, if◌then◌else◌}
use Rattle.std.proofs.Math.Path.{refl, ap, sym}
use Rattle.std.proofs.Common.{◌∙◌, subst, true≢false, arith, ltb-true, lt-ltb}
use Rattle.std.proofs.Math.Bool.{true, false}
use Rattle.std.proofs.Math.Logic.Iff
use mathlib.Core.List.{List, [], ◌∷◌}
use Rattle.std.proofs.Math.Option.{Option, none, some, map}
use Prim.Native.Nat.{ℕ, zero, suc, ◌<◌}
use Rattle.lists.specs.Search.{is_none}
use Rattle.lists.specs.Tables.{put}
use Rattle.rules.specs.Blocks
use Rattle.rules.specs.Jobs.{joined, top_of, levels_of}
use Rattle.rules.specs.Request.{pass_level, is_source, accept, release}
use Rattle.rules.specs.Draws.{Drew}
use Rattle.rules.proofs.Laws.Released.{released-same}
use Rattle.rules.specs.Shape.{Shape}
use Rattle.rules.specs.Open.{fresh}
use Rattle.rules.specs.State.{State, Command, Request}
use Rattle.rules.specs.Completion
use Rattle.rules.specs.Completion.{complete}
use Rattle.rules.specs.Questions.{first_no}
use Rattle.rules.specs.Turn
use Rattle.rules.specs.Turn.{Step, idle, no_dummy, read_for_request, read_for_job, rebuild, write_next, do_step}
use Rattle.matching.proofs.Deferred.{Trade, full}
use Rattle.matching.specs.Trades.{None, Trades}
use Rattle.matching.proofs.Trades.{stays, renamed, none-drew, telling}
use Rattle.matching.specs.Positions.{Positions, Zero, show}
use Rattle.matching.proofs.Positions.{settled}
use Rattle.matching.specs.Machine.{Machine, along}
use Rattle.matching.proofs.TwoLists.{Stage}
use Rattle.hiding.proofs.Orders.Number.{formed-facts}
use Rattle.hiding.specs.Machines.Middle.{off, on_m, Mid, unopened, shut, on, next_step_m, collected_m, next_m, bounds_open, open_m, mid, mid-legal, mid-next, mid-seen}
use Rattle.hiding.proofs.Positions.Trades.{PlacedIn, ask_p, trade_p, next-shape, fresh-placed}
use Rattle.hiding.proofs.Machines.Release.{hide-release, hide-completed}
use Rattle.hiding.specs.Machines.Ideal.{lacking, nothing_sent, seen_if, Seen, legal_if, rebuild_p, next_step_i, collected_i, perform_i, next_i, Ideal, open_i, ideal, ideal-legal, ideal-next, ideal-seen, on_i, closes, seen_shut}
use Rattle.hiding.specs.Machines.Public.{Later, later-request, later-turn, later-completion, later-collect, Entry, first, later, formed, public_ask, public_later, public_entry, present, blank, hide, decide_p, bounds_p, questions_p, number_p, number_open, later-save, later-reload}

-- ---- the public part of the next state is the ideal machine's next state

-- the positions: of the request's block the next one
abbrev pub positions_of : Positions → Option Request → Positions
positions_of f none = f
positions_of f (some r) = put r.block r.next f

abbrev pub positions : State → Positions
positions s = positions_of s.partition s.request

pass-blank : (ℓ n : ℕ) (o : Option Request) → pass_level ℓ n (blank o) ≡ blank (pass_level ℓ n o)
unfolding pass_level
pass-blank ℓ n none = refl
pass-blank ℓ n (some r) = refl

pass-present : (f : ℕ → ℕ) (ℓ n : ℕ) (o : Option Request) → present f (pass_level ℓ n o) ≡ present f o
unfolding pass_level
pass-present f ℓ n none = refl
pass-present f ℓ n (some r) = refl

pass-positions : (f : ℕ → ℕ) (ℓ n : ℕ) (o : Option Request) → positions_of f (pass_level ℓ n o) ≡ positions_of f o
unfolding pass_level
pass-positions f ℓ n none = refl
pass-positions f ℓ n (some r) = refl

less-positions : (f : ℕ → ℕ) (c : Command) (os : List Command) (o : Option Request) → positions_of f (map (Completion.awaits_less c os) o) ≡ positions_of f o
less-positions f c os none = refl
less-positions f c os (some r) = refl

blank_none : (o : Option Request) → is_none (blank o) ≡ true → o ≡ none
unfolding is_none
blank_none none e = refl
blank_none (some r) e = absurd (true≢false (sym e))

module _ (s : State) where
  -- hidden parts of a next state
  abbrev Leads : State → State → Type 0
  Leads i' s' = (i' ≡ hide s') × (positions s ≡ positions s')

  step-leads : (x : Step) (e : List ℕ) → Leads (next_step_i (hide s) x e) (next_step_m s x e)
  unfolding do_step Turn.mark_read Turn.send rebuild_p is_source top_of joined
  step-leads idle e = (refl, refl)
  step-leads no_dummy e = (refl, refl)
  step-leads (read_for_request q ℓ x) e = (rw (pass-blank ℓ (suc (length s.outstanding)) s.request, pass-present s.partition ℓ (suc (length s.outstanding)) s.request), sym (pass-positions s.partition ℓ (suc (length s.outstanding)) s.request))
  step-leads (read_for_job q ℓ x) e = (refl, refl)
  step-leads (rebuild q ls) e = (refl, refl)
  step-leads (write_next q t x) e = (refl, refl)

  complete-leads : (c : Command) (bs bs' : List ℕ) → Leads (complete c bs' (hide s)) (complete c bs s)
  unfolding complete Completion.complete_read Completion.complete_write Completion.gather_bytes Completion.finish_job Completion.end_job Completion.job_done Blocks.holder Blocks.named joined levels_of
  complete-leads c bs bs' = rw (← hide-completed c s) (go (eqb c.kind 1) (Blocks.holder s c.partition c.level c.slot) s.queue)
    where
      s' : State
      s' = Completion.completed c s

      same : positions s ≡ positions s'
      same = unfold Completion.completed in (sym (less-positions s.partition c s.outstanding s.request))

      ended : (q : ℕ) (t : Bool) → Leads (if t then Completion.end_job q (hide s') else hide s') (if t then Completion.end_job q s' else s')
      ended q true = (refl, same)
      ended q false = (refl, same)

      go : (t : Bool) (b : Option ℕ) (qs : List ℕ) → Leads (if t then hide s' else Completion.finish_job qs (hide s')) (if t then Completion.gather_bytes b bs s' else Completion.finish_job qs s')
      go true none qs = (refl, same)
      go true (some b) qs = (refl, same)
      go false b [] = (refl, same)
      go false b (q ∷ qs) = ended q (Completion.job_done s' q)

  collect-leads : (o : Option Request) → s.request ≡ o → Leads (collected_i (blank o) (hide s)) (collected_m o s)
  unfolding collected_i collected_m
  collect-leads none e = (refl, refl)
  collect-leads (some r) e = (rw e, rw e)

  -- a request
  ask-leads : (h : Shape) (k b : ℕ) (bs e : List ℕ) → s.request ≡ none → Drew (s.shape.P ∷ s.shape.P ∷ []) e →
      let y = show b (positions s, e) in
      (perform_i (hide s) (public_later h (later-request k b bs)) y.0 ≡ hide (accept k b bs e s)) × (y.1 ≡ positions (accept k b bs e s))
  unfolding accept
  ask-leads h k b bs [] n p = absurd p
  ask-leads h k b bs (d ∷ []) n p = absurd p.1
  ask-leads h k b bs (d ∷ c ∷ []) n p =
      let e : positions s ≡ s.partition = ap (positions_of s.partition) n in
      (go (formed h k b (length bs)) (positions s b) (ap (λ (f : ℕ → ℕ). f b) e), ap (put b d) e)
    where
      go : (t : Bool) (v : ℕ) → v ≡ s.partition b → perform_i (hide s) (public_ask t k b (length bs)) (v ∷ c ∷ []) ≡ hide (accept k b bs (d ∷ c ∷ []) s)
      go true v e = rw e
      go false v e = rw e
  ask-leads h k b bs (d ∷ c ∷ a ∷ e) n p = absurd p.1.1

-- a request is released alike
released : (i' s' : State) (pos : Positions) → (i' ≡ hide s') × (pos ≡ positions s') → (release i' ≡ hide (release s')) × (pos ≡ positions (release s'))
released i' s' pos k = (ap release k.0 ∙ sym (hide-release s'), k.1 ∙ sym (released-same (positions_of s'.partition) (λ r x n. refl) s' s'.request))

-- ---- the stage

-- an accepted request is well-formed, and none was in hand
first_no-ask : (a o b c d f : Bool) → first_no ((a, 2) ∷ (o, 4) ∷ (b, 5) ∷ (c, 6) ∷ (d, 7) ∷ (f, 3) ∷ []) ≡ 0 → (a ≡ true) × (o ≡ true) × (b ≡ true) × (c ≡ true)
unfolding first_no
first_no-ask true true true true d f e = (refl, refl, refl, refl)
first_no-ask false o b c d f e = absurd (omega arith)
first_no-ask true false b c d f e = absurd (omega arith)
first_no-ask true true false c d f e = absurd (omega arith)
first_no-ask true true true false d f e = absurd (omega arith)

asked : (s : State) (k b : ℕ) (bs : List ℕ) (m w n : ℕ) → number_p (hide s) (public_later s.shape (later-request k b bs)) m w n ≡ 0 → (s.request ≡ none) × (b < s.shape.N)
unfolding number_p questions_p
asked s k b bs m w n e = go (formed s.shape k b (length bs)) refl e
  where
    go : (t : Bool) → formed s.shape k b (length bs) ≡ t → number_p (hide s) (public_ask t k b (length bs)) m w n ≡ 0 → (s.request ≡ none) × (b < s.shape.N)
    go true f e = (blank_none s.request (first_no-ask _ _ _ _ _ _ e).1, ltb-true b s.shape.N (formed-facts s.shape k b (length bs) f).1)
    go false f e = let r = first_no-ask _ _ _ _ _ _ e in (blank_none s.request r.1, ltb-true b s.shape.N r.2)

-- the bounds of the draws are those of the public part
bounds-public : (h : Shape) (i : State) (l : Later) → bounds_p i l ≡ bounds_p i (public_later h l)
bounds-public h i (later-request k b bs) = go (formed h k b (length bs))
  where
    go : (t : Bool) → bounds_p i (later-request k b bs) ≡ bounds_p i (public_ask t k b (length bs))
    go true = refl
    go false = refl
bounds-public h i later-turn = refl
bounds-public h i (later-completion c bs) = refl
bounds-public h i later-collect = refl
bounds-public h i later-save = refl
bounds-public h i (later-reload m n) = refl

module _ (h : Shape) where
  abbrev pub outside : Machine Entry (List ℕ) Seen
  outside = along (public_entry h) (ideal h)

  abbrev pub Inv₂ : Ideal → Type 0
  Inv₂ Ideal.unopened = Unit
  Inv₂ Ideal.shut = Unit
  Inv₂ (Ideal.on i) = i.shape ≡ h
  Inv₂ (Ideal.off i) = Unit

  abbrev pub Hidden₂ : Ideal → Positions → Type 0
  Hidden₂ Ideal.unopened pos = Zero pos
  Hidden₂ Ideal.shut pos = Zero pos
  Hidden₂ (Ideal.on i) pos = PlacedIn i.shape pos
  Hidden₂ (Ideal.off i) pos = PlacedIn i.shape pos

  abbrev pub Drawn₂ : Ideal → Entry → List ℕ → Type 0
  Drawn₂ Ideal.unopened (first m w) e = Drew (bounds_open h (number_open h m w)) e
  Drawn₂ Ideal.unopened (later l m w n) e = None e
  Drawn₂ Ideal.shut c e = None e
  Drawn₂ (Ideal.off i) c e = None e
  Drawn₂ (Ideal.on i) (first m w) e = None e
  Drawn₂ (Ideal.on i) (later l m w n) e = legal_if (number_p i (public_later h l) m w n) i l e

  abbrev pub start₂ : (n : ℕ) → Trades {D = List ℕ} {E = List ℕ} {H = Positions} Zero (Drew (bounds_open h n)) None (λ e. Hidden₂ (open_i h n))
  start₂ zero = renamed Zero None (λ d. Iff.rfl) (fresh-placed h) (settled h.N h.P)
  start₂ (suc n) = stays none-drew (λ d o p. Iff.rfl)

  -- a refused load hides what was hidden
  pub closed-placed : (t : Bool) (i : State) (pos : Positions) → PlacedIn i.shape pos ↔ Hidden₂ (if t then Ideal.off i else Ideal.on i) pos
  closed-placed true i pos = Iff.rfl
  closed-placed false i pos = Iff.rfl

  abbrev pub base_p : (n : ℕ) (i : State) (l : Later) →
      Trades {D = List ℕ} {E = List ℕ} {H = Positions} (PlacedIn i.shape) (legal_if n i l) (legal_if n i (public_later h l)) (λ e. Hidden₂ (on_i n i (public_later h l) e))
  base_p zero i l = trade_p h i zero l
  base_p (suc n) i l = stays (λ d. Iff.rfl) (λ e pos p. closed-placed (closes (public_later h l)) i pos)

  abbrev pub base₂ : (i : Ideal) (c : Entry) →
      Trades {D = List ℕ} {E = List ℕ} {H = Positions} (Hidden₂ i) (Drawn₂ i c) (ideal-legal h i (public_entry h c)) (λ e. Hidden₂ (ideal-next h i (public_entry h c) e))
  base₂ Ideal.unopened (first m w) = start₂ (number_open h m w)
  base₂ Ideal.unopened (later l m w n) = stays (λ d. Iff.rfl) (λ d o p. Iff.rfl)
  base₂ Ideal.shut c = stays (λ d. Iff.rfl) (λ d o p. Iff.rfl)
  base₂ (Ideal.off i) c = stays (λ d. Iff.rfl) (λ d o p. Iff.rfl)
  base₂ (Ideal.on i) (first m w) = stays (λ d. Iff.rfl) (λ d o p. Iff.rfl)
  base₂ (Ideal.on i) (later l m w n) = base_p (number_p i (public_later h l) m w n) i l

  abbrev pub shown₂ : Ideal → Positions → Entry → List ℕ → Seen
  shown₂ i pos c e = ideal-seen h i (public_entry h c) ((base₂ i c).f (pos, e)).0

  abbrev pub trade₂ : (i : Ideal) (c : Entry) → Trade outside Inv₂ Hidden₂ Drawn₂ shown₂ i c
  trade₂ i c =
      telling (Inv₂ i) (Hidden₂ i) (Drawn₂ i c) (ideal-legal h i (public_entry h c)) (λ e. Hidden₂ (ideal-next h i (public_entry h c) e))
      (base₂ i c) (ideal-seen h i (public_entry h c))

  open-inv : (n : ℕ) → Inv₂ (open_i h n)
  unfolding fresh
  open-inv zero = refl
  open-inv (suc n) = tt

  pub keep₂ : (i : Ideal) (c : Entry) (e : List ℕ) → Inv₂ i → ideal-legal h i (public_entry h c) e → Inv₂ (ideal-next h i (public_entry h c) e)
  keep₂ Ideal.unopened (first m w) e k p = open-inv (number_open h m w)
  keep₂ Ideal.unopened (later l m w n) e k p = tt
  keep₂ Ideal.shut c e k p = tt
  keep₂ (Ideal.off i) c e k p = tt
  keep₂ (Ideal.on i) (first m w) e k p = k
  keep₂ (Ideal.on i) (later l m w n) e k p = go (number_p i (public_later h l) m w n)
    where
      shut-inv : (t : Bool) → Inv₂ (if t then Ideal.off i else Ideal.on i)
      shut-inv true = tt
      shut-inv false = k

      go : (j : ℕ) → Inv₂ (on_i j i (public_later h l) e)
      go zero = next-shape h i zero (public_later h l) e ∙ k
      go (suc j) = shut-inv (closes (public_later h l))

  abbrev pub public_view : Mid → Ideal × Positions
  public_view unopened = (Ideal.unopened, λ b. 0)
  public_view shut = (Ideal.shut, λ b. 0)
  public_view (on s it) = (Ideal.on (hide s), positions s)
  public_view (off s it) = (Ideal.off (hide s), positions s)

  pub legal₂ : (m : Mid) (c : Entry) (e : List ℕ) → mid-legal h m c e ↔ Drawn₂ (public_view m).0 c e
  legal₂ unopened (first m w) e = Iff.rfl
  legal₂ unopened (later l m w n) e = Iff.rfl
  legal₂ shut c e = Iff.rfl
  legal₂ (off s it) c e = Iff.rfl
  legal₂ (on s it) (first m w) e = Iff.rfl
  legal₂ (on s it) (later l m w n) e = Iff.rfl

  abbrev pub full₂ : Machine Entry (List ℕ) Seen
  full₂ = full outside Inv₂ Hidden₂ Drawn₂ shown₂ keep₂ trade₂

  module _ (s : State) (same : s.shape ≡ h) (e : List ℕ) where
    abbrev Shows : (l : Later) (j : ℕ) → List ℕ × Positions → Type 0
    Shows l j y =
        (seen_if j (hide s) l e ≡ seen_if j (hide s) (public_later h l) y.0)
        × ((next_i j (hide s) (public_later h l) y.0 ≡ hide (next_m j s l e)) × (y.1 ≡ positions (next_m j s l e)))

    ask-shows : (k b : ℕ) (bs : List ℕ) (t : Bool) (q : ltb b s.shape.N ≡ t) → t ≡ true → s.request ≡ none → legal_if zero (hide s) (later-request k b bs) e →
        Shows (later-request k b bs) zero ((ask_p h (hide s) k b bs t q).f (positions s, e))
    ask-shows k b bs true q i n p = (seen-public (show b (positions s, e)).0, released _ (accept k b bs e s) _ (ask-leads s h k b bs e n p))
      where
        seen-public : (e' : List ℕ) → seen_if zero (hide s) (later-request k b bs) e ≡ seen_if zero (hide s) (public_later h (later-request k b bs)) e'
        seen-public e' = go (formed h k b (length bs))
          where
            go : (t : Bool) → seen_if zero (hide s) (later-request k b bs) e ≡ seen_if zero (hide s) (public_ask t k b (length bs)) e'
            go true = refl
            go false = refl
    ask-shows k b bs false q i n p = absurd (true≢false (sym i))

    call-shows : (l : Later) (m w n j : ℕ) → number_p (hide s) (public_later h l) m w n ≡ j → legal_if j (hide s) l e → Shows l j ((trade_p h (hide s) j l).f (positions s, e))
    call-shows l m w n (suc j) q p = (λ i. (suc j, lacking (suc j) (bounds-public h (hide s) l i), nothing_sent), (refl, refl))
    call-shows (later-request k b bs) m w n zero q p =
        let r = asked s k b bs m w n (subst (λ h'. number_p (hide s) (public_later h' (later-request k b bs)) m w n ≡ 0) (sym same) q) in
        ask-shows k b bs (ltb b s.shape.N) refl (lt-ltb b s.shape.N r.1) r.0 p
    call-shows later-turn m w n zero q p = (refl, released _ (next_step_m s (decide_p (hide s)) e) _ (step-leads s (decide_p (hide s)) e))
    call-shows (later-completion c bs) m w n zero q p = (refl, released _ (complete c bs s) _ (complete-leads s c bs (replicate (length bs) 0)))
    call-shows later-collect m w n zero q p = (refl, released _ (collected_m s.request s) _ (collect-leads s s.request refl))
    call-shows later-save m w n zero q p = (refl, released _ s _ (refl, refl))
    call-shows (later-reload m₀ n₀) m w n zero q p = (refl, released _ s _ (refl, refl))

  closes-public : (l : Later) → closes (public_later h l) ≡ closes l
  closes-public (later-request k b bs) = go (formed h k b (length bs))
    where
      go : (t : Bool) → closes (public_ask t k b (length bs)) ≡ false
      go true = refl
      go false = refl
  closes-public later-turn = refl
  closes-public (later-completion c bs) = refl
  closes-public later-collect = refl
  closes-public later-save = refl
  closes-public (later-reload m n) = refl

  -- a closed state shows the same of the public part of a call
  shut-public : (c : Entry) → seen_shut c ≡ seen_shut (public_entry h c)
  shut-public (first m w) = refl
  shut-public (later (later-request k b bs) m w n) = go (formed h k b (length bs))
    where
      go : (t : Bool) → seen_shut (later (later-request k b bs) m w n) ≡ seen_shut (later (public_ask t k b (length bs)) m w n)
      go true = refl
      go false = refl
  shut-public (later later-turn m w n) = refl
  shut-public (later (later-completion c bs) m w n) = refl
  shut-public (later later-collect m w n) = refl
  shut-public (later later-save m w n) = refl
  shut-public (later (later-reload m₀ n₀) m w n) = refl

  start-shows : (e : List ℕ) (j : ℕ) → Drew (bounds_open h j) e → (open_i h j, ((start₂ j).f (λ b. 0, e)).1) ≡ public_view (open_m h j e)
  unfolding fresh
  start-shows e zero p = refl
  start-shows e (suc j) p = refl

  pub step₂ : (m : Mid) (c : Entry) (e : List ℕ) → Inv₂ (public_view m).0 → mid-legal h m c e →
      (mid-seen h m c e ≡ shown₂ (public_view m).0 (public_view m).1 c e) × (full₂.next (public_view m) c e ≡ public_view (mid-next h m c e))
  step₂ unopened (first m w) e k p = (refl, start-shows e (number_open h m w) p)
  step₂ unopened (later l m w n) e k p = (refl, refl)
  step₂ shut c e k p = (shut-public c, refl)
  step₂ (off s it) c e k p = (shut-public c, refl)
  step₂ (on s it) (first m w) e k p = (refl, refl)
  step₂ (on s it) (later l m w n) e k p =
      go (number_p (hide s) (public_later h l) m w n) refl p
    where
      shut-view : (t u : Bool) → t ≡ u → ((if t then Ideal.off (hide s) else Ideal.on (hide s)), positions s) ≡ public_view (if u then off s it else on s it)
      shut-view true true q = refl
      shut-view false false q = refl
      shut-view true false q = absurd (true≢false q)
      shut-view false true q = absurd (true≢false (sym q))

      go : (j : ℕ) → number_p (hide s) (public_later h l) m w n ≡ j → legal_if j (hide s) l e
          → (seen_if j (hide s) l e ≡ seen_if j (hide s) (public_later h l) ((base_p j (hide s) l).f (positions s, e)).0)
          × ((on_i j (hide s) (public_later h l) ((base_p j (hide s) l).f (positions s, e)).0, ((base_p j (hide s) l).f (positions s, e)).1) ≡ public_view (on_m j s it l e))
      go zero q p = let r = call-shows s k e l m w n zero q p in (r.0, λ i. (Ideal.on (r.1.0 i), r.1.1 i))
      go (suc j) q p = (λ i. (suc j, lacking (suc j) (bounds-public h (hide s) l i), nothing_sent), shut-view (closes (public_later h l)) (closes l) (closes-public l))

  -- The second stage
  abbrev pub second-stage : Stage (mid h) outside Positions
  second-stage = record {
    Inv = Inv₂;
    Hidden = Hidden₂;
    Drawn = Drawn₂;
    shown = shown₂;
    keep = keep₂;
    trade = trade₂;
    Rel = λ m q. q ≡ public_view m;
    legal = λ m q c d e. rw e (legal₂ m c d);
    step = λ m q c d e i k p. rw e (step₂ m c d (rw e at i) p);
  }
