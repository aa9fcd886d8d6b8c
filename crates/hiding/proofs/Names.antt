-- Document 01, of well-formed requests: "among such requests only 8 may depend on names".
use Rattle.std.specs.Prelude.{◌≡◌, refl, Bool, true, false, not, ◌&&◌, ◌||◌, List, [], ◌∷◌, ℕ, ◌≤◌, length, ltb, leb}
use Rattle.std.proofs.Common.{ap, sym, ◌∙◌, arith, lt-ltb, eq-eqb}
use Rattle.lists.specs.Search.{is_none, member}
use Rattle.lists.specs.All.{nil, cons}
use Rattle.rules.specs.Draws.{limit, draws}
use Rattle.rules.proofs.Laws.Draws.{partitions-even}
use Rattle.rules.proofs.Laws.Drawn.{draws-enough}
use Rattle.rules.proofs.Laws.Kept.{given-in}
use Rattle.rules.specs.Questions.{request, Call, bounds, ready, questions, first_no, number}
use Rattle.rules.specs.Ranges.{bytes_of}
use Rattle.rules.specs.State.{State}
use Rattle.hiding.specs.Claim.{WellFormed, ShortWords}
use Rattle.hiding.specs.Names.{OnlyEight}
use Rattle.hiding.proofs.Asks.{asks, either}

-- the words lent settle its two draws
abbrev settled : State → List ℕ → Bool
settled s ws = not (is_none (draws (s.shape.P ∷ s.shape.P ∷ []) ws))

formed : (s : State) (c : Call) (k b : ℕ) (bs : List ℕ) → c.ask ≡ request k b bs → WellFormed s.shape k b (length bs)
    → number s c ≡ asks (ready s c.memory) (is_none s.request) (leb (length s.queue) 62) (ltb (length s.waiting) s.shape.E || member b s.waiting) (settled s c.words)
unfolding number questions first_no bounds asks
formed s c k b bs e f = rw (e, f.kind, lt-ltb b s.shape.N f.block, eq-eqb (length bs) (bytes_of s.shape k) f.contents, and_yes (ready s c.memory))
  where
    and_yes : (t : Bool) → (t && true) ≡ t
    and_yes true = refl
    and_yes false = refl

-- P is a power of two: no word is passed over, so that it matters only how many there are
settled-count : (s : State) (m : ℕ) (ws : List ℕ) → ready s m ≡ true → ShortWords ws → settled s ws ≡ leb 2 (length ws)
settled-count s m ws r h =
    let e = partitions-even s.shape (given-in s m r).shape in
    let l : 65536 ≤ limit s.shape.P = omega arith in
    draws-enough (s.shape.P ∷ s.shape.P ∷ []) ws (cons l (cons l nil), h)

pub only-eight : OnlyEight
only-eight s c d k b k' b' bs bs' e e' f f' m w h h' =
    rw (formed s c k b bs e f, formed s d k' b' bs' e' f', m)
    (either (ready s d.memory) (is_none s.request) (leb (length s.queue) 62) (room b) (room b') (settled s c.words) (settled s d.words) (λ r.
    settled-count s d.memory c.words r h ∙ ap (leb 2) w ∙ sym (settled-count s d.memory d.words r h')))
  where
    room : ℕ → Bool
    room b = ltb (length s.waiting) s.shape.E || member b s.waiting
