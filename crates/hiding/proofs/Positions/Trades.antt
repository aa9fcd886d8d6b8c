-- The second stage: the positions are hidden from the ideal machine. What each of its calls trades.
use Rattle.std.specs.Prelude.{◌≡◌, Bool, true, false, ◌↔◌, List, [], ◌∷◌, ℕ, zero, suc, length, ltb}
use Rattle.std.proofs.Math.Path.{refl}
use Rattle.std.proofs.Common.{ap, ltb-true}
use Rattle.std.proofs.Math.Logic.Iff
use Rattle.std.proofs.Math.Option.{Option, none, some}
use Rattle.rules.specs.Open.{fresh}
use Rattle.rules.specs.Turn
use Rattle.rules.specs.Turn.{Step, idle, no_dummy, read_for_request, read_for_job, rebuild, write_next, do_step}
use Rattle.rules.specs.State.{State, Request}
use Rattle.rules.specs.Shape.{Shape}
use Rattle.matching.specs.Positions.{Positions, Placed}
use Rattle.matching.proofs.Positions.{position}
use Rattle.matching.specs.Match.{join, rename}
use Rattle.matching.specs.Trades.{Trades}
use Rattle.matching.proofs.Trades.{stays}
use Rattle.hiding.specs.Machines.Ideal.{legal_if, rebuild_p, next_step_i, collected_i, next_i}
use Rattle.hiding.specs.Machines.Public.{Later, later-request, later-turn, later-completion, later-collect, later-save, later-reload, formed, public_ask, public_later, hide, decide_p}
use Rattle.hiding.proofs.Unchanged.{Rest, complete-rest}

-- one position below P for each of N blocks
abbrev pub PlacedIn : Shape → Positions → Type 0
PlacedIn h pos = Placed h.N h.P pos

-- the public part of a call has the same draws, and leaves the shape
module _ (h : Shape) (i : State) where
  pub legal-public : (n : ℕ) (l : Later) (e : List ℕ) → legal_if n i l e ↔ legal_if n i (public_later h l) e
  legal-public (suc n) l e = Iff.rfl
  legal-public zero (later-request k b bs) e = go (formed h k b (length bs))
    where
      go : (t : Bool) → legal_if zero i (later-request k b bs) e ↔ legal_if zero i (public_ask t k b (length bs)) e
      go true = Iff.rfl
      go false = Iff.rfl
  legal-public zero later-turn e = Iff.rfl
  legal-public zero (later-completion c bs) e = Iff.rfl
  legal-public zero later-collect e = Iff.rfl
  legal-public zero later-save e = Iff.rfl
  legal-public zero (later-reload m n) e = Iff.rfl

  step-shape : (x : Step) (e : List ℕ) → (next_step_i i x e).shape ≡ i.shape
  unfolding do_step Turn.mark_read Turn.send rebuild_p
  step-shape idle e = refl
  step-shape no_dummy e = refl
  step-shape (read_for_request q ℓ x) e = refl
  step-shape (read_for_job q ℓ x) e = refl
  step-shape (rebuild q ls) e = refl
  step-shape (write_next q t x) e = refl

  collect-shape : (o : Option Request) → (collected_i o i).shape ≡ i.shape
  unfolding collected_i
  collect-shape none = refl
  collect-shape (some r) = refl

  pub next-shape : (n : ℕ) (l : Later) (e : List ℕ) → (next_i n i l e).shape ≡ i.shape
  next-shape (suc n) l e = refl
  next-shape zero (later-request k b bs) e = refl
  next-shape zero later-turn e = step-shape (decide_p i) e
  next-shape zero (later-completion c bs) e = ap (λ (x : Rest). x.shape) (complete-rest i c bs)
  next-shape zero later-collect e = collect-shape i.request
  next-shape zero later-save e = refl
  next-shape zero (later-reload m n) e = refl

  pub placed-next : (n : ℕ) (l : Later) (e : List ℕ) (pos : Positions) → PlacedIn i.shape pos ↔ PlacedIn (next_i n i l e).shape pos
  placed-next n l e pos = rw (next-shape n l e) Iff.rfl

  abbrev pub TradeP : ℕ → Later → Type 0
  TradeP n l = Trades {D = List ℕ} {E = List ℕ} {H = Positions} (PlacedIn i.shape) (legal_if n i l) (legal_if n i (public_later h l)) (λ e. PlacedIn (next_i n i (public_later h l) e).shape)

  abbrev pub stay_p : (n : ℕ) (l : Later) → TradeP n l
  stay_p n l = stays (legal-public n l) (λ e pos p. placed-next n (public_later h l) e pos)

  -- a request, for a block of the store or not
  abbrev pub ask_p : (k b : ℕ) (bs : List ℕ) (t : Bool) → ltb b i.shape.N ≡ t → TradeP zero (later-request k b bs)
  ask_p k b bs true l =
      join (position b i.shape.N i.shape.P (i.shape.P ∷ []) (ltb-true b i.shape.N l))
      (rename (λ y p. ((seen y).0.0 p.0, (seen y).1.0 p.1)) (λ y p. ((seen y).0.1 p.0, (seen y).1.1 p.1)) (λ y p. refl))
    where
      seen : (y : List ℕ × Positions) → (legal_if zero i (later-request k b bs) y.0 ↔ legal_if zero i (public_later h (later-request k b bs)) y.0)
          × (PlacedIn i.shape y.1 ↔ PlacedIn (next_i zero i (public_later h (later-request k b bs)) y.0).shape y.1)
      seen y = (legal-public zero (later-request k b bs) y.0, placed-next zero (public_later h (later-request k b bs)) y.0 y.1)
  ask_p k b bs false l = stay_p zero (later-request k b bs)

  abbrev pub trade_p : (n : ℕ) (l : Later) → TradeP n l
  trade_p (suc n) l = stay_p (suc n) l
  trade_p zero (later-request k b bs) = ask_p k b bs (ltb b i.shape.N) refl
  trade_p zero later-turn = stay_p zero later-turn
  trade_p zero (later-completion c bs) = stay_p zero (later-completion c bs)
  trade_p zero later-collect = stay_p zero later-collect
  trade_p zero later-save = stay_p zero later-save
  trade_p zero (later-reload m n) = stay_p zero (later-reload m n)

pub fresh-placed : (h : Shape) (e : List ℕ) (pos : Positions) → PlacedIn h pos ↔ PlacedIn (hide (fresh h [])).shape pos
unfolding fresh
fresh-placed h e pos = Iff.rfl
