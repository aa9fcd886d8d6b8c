-- A call with words, in a state that calls left: what it uses up of them decides what it does.
use Rattle.std.specs.Prelude.{◌≡◌, refl, Bool, true, false, ◌&&◌, List, [], ◌∷◌, ◌++◌, ℕ, ◌+◌, length, take, eqb, leb, if◌then◌else◌}
use Rattle.std.proofs.Math.Path.{ap, sym}
use Rattle.std.proofs.Common.{◌∙◌, subst, true≢false, arith, length-append, take_at}
use Rattle.std.proofs.Math.Bool.{not}
use Rattle.std.proofs.Math.Option.{Option, none, some}
use Rattle.std.proofs.lemmas.Bool.{eqb-false}
use Rattle.lists.specs.All.{All}
use Rattle.lists.specs.Search.{is_none}
use Rattle.rules.specs.State.{State}
use Rattle.rules.specs.Draws.{Drawn, draws}
use Rattle.rules.specs.Questions.{Ask, bounds, number}
use Rattle.rules.specs.Run.{Outcome, refuse, refused, accepted, taken_of, step}
use Rattle.rules.proofs.Laws.Answers.{step-accepted, step-refused}
use Rattle.rules.proofs.Laws.Draws
use Rattle.rules.specs.Laws.Draws.{drawn}
use Rattle.rules.proofs.Laws.Draws.{Settles, settles-draws, enough}
use Rattle.rules.proofs.Laws.Bounds.{Few}
use Rattle.reachable.proofs.Reached.{Was}
use Rattle.hiding.specs.Claim.{ShortWords, is_turn, used, used_by}
use Rattle.hiding.specs.Lists.Fixed.{Fixed, lend}
use Rattle.hiding.proofs.Lists.Asks.{Asks, asks-draws, asks-no, asks, settled, Even}

-- what a call does that draws, by its draws: without them it is refused with 3
abbrev pub drawn_or3 : State → Ask → Option Drawn → State × Outcome
drawn_or3 s k none = (refuse s k, refused 3)
drawn_or3 s k (some d) = accepted s k (some d)

-- and what it uses up of its words
abbrev pub used_or3 : Ask → List ℕ → Option Drawn → List ℕ
used_or3 k ws none = if is_turn k then ws else []
used_or3 k ws (some d) = take d.taken ws

pub used-or3 : (s : State) (a : Fixed) (ws : List ℕ) (o : Option Drawn) → used (lend a ws) (drawn_or3 s a.ask o).1 ≡ used_or3 a.ask ws o
unfolding used_by refused accepted taken_of
used-or3 s a ws none = go (is_turn a.ask)
  where
    go : (t : Bool) → (if (t && true) then ws else []) ≡ (if t then ws else [])
    go true = refl
    go false = refl
used-or3 s a ws (some d) = refl

pub used-refused : (a : Fixed) (ws : List ℕ) (j : ℕ) → eqb j 0 ≡ false → eqb j 3 ≡ false → used (lend a ws) (refused j) ≡ []
unfolding used_by refused
used-refused a ws j e f = rw (e, f) (go (is_turn a.ask))
  where
    go : (t : Bool) → (if (t && false) then ws else []) ≡ []
    go true = refl
    go false = refl

-- ---- What a call does

pub data Does (s : State) (a : Fixed) : Type 0 where
  drawing : All Few (bounds s a.ask) → (is_turn a.ask ≡ false → All Even (bounds s a.ask)) →
      ((ws : List ℕ) → number s (lend a ws) ≡ (if settled (bounds s a.ask) ws then 0 else 3)) →
      ((ws : List ℕ) → step s (lend a ws) ≡ drawn_or3 s a.ask (draws (bounds s a.ask) ws)) → Does s a
  refusing : (j : ℕ) → eqb j 0 ≡ false → eqb j 3 ≡ false → ((ws : List ℕ) → number s (lend a ws) ≡ j) →
      ((ws : List ℕ) → step s (lend a ws) ≡ (refuse s a.ask, refused j)) → Does s a

pub does : (s : State) → Was s → (a : Fixed) → Does s a
does s v a = go (asks s v a.ask a.memory a.buffer)
  where
    go : Asks s a.ask a.memory a.buffer → Does s a
    go (asks-no j e f n) = refusing j e f n (λ ws. step-refused s (lend a ws) (λ z. eqb-false j 0 e (sym (n ws) ∙ z)) ∙ ap (λ i. (refuse s a.ask, refused i)) (n ws))
    go (asks-draws few even n) = drawing few even n (λ ws. by ws (draws (bounds s a.ask) ws) refl (n ws))
      where
        by : (ws : List ℕ) (o : Option Drawn) → draws (bounds s a.ask) ws ≡ o → number s (lend a ws) ≡ (if not (is_none (draws (bounds s a.ask) ws)) then 0 else 3) →
            step s (lend a ws) ≡ drawn_or3 s a.ask (draws (bounds s a.ask) ws)
        by ws none e k =
            let z : number s (lend a ws) ≡ 3 = k ∙ ap (λ (x : Option Drawn). if not (is_none x) then 0 else 3) e ∙ (unfold is_none in refl) in
            step-refused s (lend a ws) (λ i. omega (arith, sym z ∙ i)) ∙ (λ i. (refuse s a.ask, refused (z i))) ∙ ap (drawn_or3 s a.ask) (sym e)
        by ws (some d) e k =
            let z : number s (lend a ws) ≡ 0 = k ∙ ap (λ (x : Option Drawn). if not (is_none x) then 0 else 3) e ∙ (unfold is_none in refl) in
            step-accepted s (lend a ws) z ∙ ap (accepted s a.ask) e ∙ ap (drawn_or3 s a.ask) (sym e)

-- ---- The words used up decide it

pub none_of : (o : Option Drawn) → not (is_none o) ≡ false → o ≡ none
unfolding is_none
none_of none e = refl
none_of (some d) e = absurd (true≢false e)

empty : (xs : List ℕ) → length xs ≡ 0 → xs ≡ []
empty [] e = refl
empty (x ∷ xs) e = absurd (omega arith)

module _ (s : State) (v : Was s) (a : Fixed) where
  -- what it uses up of these words
  abbrev pub uses : List ℕ → List ℕ
  uses ws = used (lend a ws) (step s (lend a ws)).1

  abbrev ms : List ℕ
  ms = bounds s a.ask

  module _ (st : (ws : List ℕ) → step s (lend a ws) ≡ drawn_or3 s a.ask (draws ms ws)) where
    pub uses-is : (ws : List ℕ) (o : Option Drawn) → draws ms ws ≡ o → uses ws ≡ used_or3 a.ask ws o
    uses-is ws o e = ap (λ (r : State × Outcome). used (lend a ws) r.1) (st ws ∙ ap (drawn_or3 s a.ask) e) ∙ used-or3 s a ws o

    pub same_step : (ws us : List ℕ) (o : Option Drawn) → draws ms ws ≡ o → draws ms us ≡ o → step s (lend a ws) ≡ step s (lend a us)
    same_step ws us o e f = st ws ∙ ap (drawn_or3 s a.ask) (e ∙ sym f) ∙ sym (st us)

    -- words that settle the draws are used up
    pub uses-settled : (ds js us : List ℕ) → Settles ms ds js → uses (ds ++ us) ≡ ds
    uses-settled ds js us k = uses-is (ds ++ us) (some (drawn js (length ds))) (settles-draws k us) ∙ take_at ds us (length ds) refl

    pub uses-ended : (ws : List ℕ) (t : Bool) → is_turn a.ask ≡ t → draws ms ws ≡ none → uses ws ≡ (if t then ws else [])
    uses-ended ws t e f = uses-is ws none f ∙ ap (λ (b : Bool). if b then ws else []) e

  pub uses-none : (j : ℕ) → eqb j 0 ≡ false → eqb j 3 ≡ false → ((ws : List ℕ) → step s (lend a ws) ≡ (refuse s a.ask, refused j)) → (ws : List ℕ) → uses ws ≡ []
  uses-none j e f st ws = ap (λ (r : State × Outcome). used (lend a ws) r.1) (st ws) ∙ used-refused a ws j e f

  -- where no word of 16 bits is passed over it is their count that matters
  pub even-ended : (ws us : List ℕ) → All Even ms → ShortWords ws → ShortWords us → length ws ≡ length us → draws ms ws ≡ none → draws ms us ≡ none
  even-ended ws us f p q l e =
      none_of (draws ms us) (enough 65536 ms us f q ∙ ap (leb (length ms)) (sym l) ∙ sym (enough 65536 ms ws f p) ∙ ap (λ (o : Option Drawn). not (is_none o)) e ∙ (unfold is_none in refl))

  -- Other words behind those used up change nothing
  pub behind : (ds us vs : List ℕ) → length us ≡ length vs → ShortWords (ds ++ us) → ShortWords (ds ++ vs) → uses (ds ++ us) ≡ ds →
      (step s (lend a (ds ++ vs)) ≡ step s (lend a (ds ++ us))) × (uses (ds ++ vs) ≡ ds)
  behind ds us vs l p q e = go (does s v a)
    where
      go : Does s a → (step s (lend a (ds ++ vs)) ≡ step s (lend a (ds ++ us))) × (uses (ds ++ vs) ≡ ds)
      go (refusing j f g n st) = (st (ds ++ vs) ∙ sym (st (ds ++ us)), uses-none j f g st (ds ++ vs) ∙ sym (uses-none j f g st (ds ++ us)) ∙ e)
      go (drawing few even n st) = by (Draws.lent ms (ds ++ us))
        where
          turn-or : (t : Bool) → is_turn a.ask ≡ t → draws ms (ds ++ us) ≡ none → (step s (lend a (ds ++ vs)) ≡ step s (lend a (ds ++ us))) × (uses (ds ++ vs) ≡ ds)
          turn-or true f z =
              let x : ds ++ us ≡ ds = sym (uses-ended st (ds ++ us) true f z) ∙ e in
              let y : length us ≡ 0 = omega (arith, ap length x, length-append ds us) in
              let same : ds ++ vs ≡ ds ++ us = ap (λ xs. ds ++ xs) (empty vs (sym l ∙ y) ∙ sym (empty us y)) in
              (ap (λ xs. step s (lend a xs)) same, ap uses same ∙ e)
          turn-or false f z =
              let y = even-ended (ds ++ us) (ds ++ vs) (even f) p q (length-append ds us ∙ ap (λ k. length ds + k) l ∙ sym (length-append ds vs)) z in
              (same_step st (ds ++ vs) (ds ++ us) none y z, uses-ended st (ds ++ vs) false f y ∙ sym (uses-ended st (ds ++ us) false f z) ∙ e)

          by : Draws.Lent ms (ds ++ us) → (step s (lend a (ds ++ vs)) ≡ step s (lend a (ds ++ us))) × (uses (ds ++ vs) ≡ ds)
          by (Draws.ended z) = turn-or (is_turn a.ask) refl z
          by (Draws.settled es ys js r k) =
              let x : es ≡ ds = sym (ap uses r ∙ uses-settled st es js ys k) ∙ e in
              let k' : Settles ms ds js = subst (λ xs. Settles ms xs js) x k in
              (same_step st (ds ++ vs) (ds ++ us) (some (drawn js (length ds))) (settles-draws k' vs) (settles-draws k' us), uses-settled st ds js vs k')
