-- Document 02, P2: "as found when the request ceased to be held (at acceptance if it never was)". On every state.
use Rattle.std.specs.Prelude.{◌≡◌, Bool, ◌&&◌, ℕ, suc, length, if◌then◌else◌}
use Rattle.std.proofs.Math.Path.{refl, ap}
use Rattle.std.proofs.Common.{sym, ◌∙◌, true≢false, arith, eqb-true}
use Rattle.std.proofs.Math.Bool.{true, false, not}
use mathlib.Core.List.{List, [], ◌∷◌}
use Rattle.std.proofs.Math.Option.{Option, none, some, get_or, map}
use Rattle.std.proofs.Math.Dec.{eqb}
use Rattle.std.proofs.lemmas.Bool.{eqb-false}
use Rattle.lists.specs.Search.{is_none}
use Rattle.rules.specs.Blocks.{look_up}
use Rattle.rules.specs.Collect.{carried, finished}
use Rattle.rules.specs.Completion.{complete}
use Rattle.rules.specs.Draws.{draws}
use Rattle.rules.specs.Jobs.{joined, top_of}
use Rattle.rules.specs.Laws.Answers.{opens}
use Rattle.rules.proofs.Laws.Answers.{Passed, accepted-passed, step-accepted, refused-keeps, accepted-leaves}
use Rattle.rules.proofs.Laws.Shapes.{unawaited, complete-keeps}
use Rattle.rules.specs.Questions.{Ask, opening, request, turn, completion, collect, save, load, Call, bounds, questions, number, in_hand}
use Rattle.rules.specs.Rebuild.{do_rebuild}
use Rattle.rules.specs.Request.{accept, undrawn_only, is_source, worn, held_for, blocked, held, with_found, released_in, release, pass_level}
use Rattle.rules.specs.Run
use Rattle.rules.specs.Run.{perform, step, after}
use Rattle.rules.specs.Shape.{Shape}
use Rattle.rules.specs.State.{State, Request, Found, found_nowhere}
use Rattle.rules.specs.Turn.{Step, idle, no_dummy, read_for_request, read_for_job, rebuild, write_next, decide, do_step, mark_read, send}
use Rattle.rules.specs.Laws.Found.{Between, first_found}

-- ---- The block of the request in hand, and where it was found

abbrev Hand : Type 0
Hand = ℕ × Option Found

no-hand : (p : Hand) → ◌≡◌ {A = Option Hand} none (some p) → ⊥
no-hand p w = let z : ◌≡◌ {A = ℕ} 0 1 = cc in omega arith

one-hand : (p q : Hand) → ◌≡◌ {A = Option Hand} (some p) (some q) → p ≡ q
one-hand p q w = cc

abbrev hand : Option Request → Option Hand
hand o = map (λ r. (r.block, r.found)) o

-- x, or where block b is if it was not yet found and may be looked for
abbrev looked : State → ℕ → Option Found → Option Found
looked s b x = if is_none x && not (held_for s (s.partition b)) then some (look_up s b) else x

release-hand : (s : State) (b : ℕ) (x : Option Found) → hand s.request ≡ some (b, x) → hand (release s).request ≡ some (b, looked s b x)
release-hand s b x e = go s.request e
  where
    one : (r : Request) (t : Bool) → hand (some (if t then with_found (look_up s r.block) (length s.outstanding) r else r)) ≡ some (r.block, (if t then some (look_up s r.block) else r.found))
    one r true = refl
    one r false = refl

    go : (o : Option Request) → hand o ≡ some (b, x) → hand (map (released_in s) o) ≡ some (b, looked s b x)
    go none w = absurd (no-hand (b, x) w)
    go (some r) w =
        let u : hand (some (released_in s r)) ≡ some (r.block, looked s r.block r.found) =
        unfold released_in blocked held in (one r (is_none r.found && not (held_for s (s.partition r.block)))) in
        u ∙ ap (λ (p : Hand). some (p.0, looked s p.0 p.1)) (one-hand (r.block, r.found) (b, x) w)

pass-hand : (ℓ n : ℕ) (o : Option Request) → hand (pass_level ℓ n o) ≡ hand o
unfolding pass_level
pass-hand ℓ n none = refl
pass-hand ℓ n (some r) = refl

turn-hand : (s : State) (x : Step) (js : List ℕ) → hand (do_step x js s).request ≡ hand s.request
unfolding do_step mark_read send do_rebuild
turn-hand s idle js = refl
turn-hand s no_dummy js = refl
turn-hand s (read_for_request q ℓ i) js = pass-hand ℓ (suc (length s.outstanding)) s.request
turn-hand s (read_for_job q ℓ i) js = refl
turn-hand s (rebuild q t) js = refl
turn-hand s (write_next q t i) js = refl

hand-unawaited : (o : Option Request) → hand (unawaited o) ≡ hand o
hand-unawaited none = refl
hand-unawaited (some r) = refl

-- where there is one in hand no other is accepted
busy : (s : State) (p : Hand) → hand s.request ≡ some p → is_none s.request ≡ true → ⊥
unfolding is_none
busy s p e = go s.request e
  where
    go : (o : Option Request) → hand o ≡ some p → is_none o ≡ true → ⊥
    go none w k = no-hand p w
    go (some r) w k = true≢false (sym k)

perform-hand : (s : State) (a : Ask) (m : ℕ) (ws : List ℕ) (n : ℕ) (js : List ℕ) (p : Hand) → hand s.request ≡ some p → opens a ≡ false → (a ≡ collect → ⊥)
    → Passed (questions s a m ws n) → hand (perform s a js).request ≡ some p
unfolding perform questions opens
perform-hand s (opening h) m ws n js p e o k y = absurd (true≢false o)
perform-hand s (request j b bs) m ws n js p e o k y = absurd (busy s p e y.1.0)
perform-hand s turn m ws n js p e o k y = turn-hand s (decide s) js ∙ e
perform-hand s (completion c bs) m ws n js p e o k y = sym (hand-unawaited (complete c bs s).request) ∙ ap (λ (x : Shape × Option Request). hand x.1) (complete-keeps s c bs) ∙ hand-unawaited s.request ∙ e
perform-hand s collect m ws n js p e o k y = absurd (k refl)
perform-hand s save m ws n js p e o k y = e
perform-hand s (load form) m ws n js p e o k y = absurd (true≢false o)

-- what one of these calls leaves: the state, or what it found
module _ (s : State) (c : Call) (b : ℕ) (x : Option Found) (e : hand s.request ≡ some (b, x)) (o : opens c.ask ≡ false) (k : c.ask ≡ collect → number s c ≡ 0 → ⊥) where
  accepted-hand : number s c ≡ 0 → hand (step s c).0.request ≡ some (b, looked (step s c).0 b x)
  accepted-hand z =
      let y = accepted-passed s c z in
      let js : List ℕ = Run.numbers_of (draws (bounds s c.ask) c.words) in
      let w : (step s c).0 ≡ release (perform s c.ask js) = accepted-leaves s c z in
      let h = release-hand (perform s c.ask js) b x (perform-hand s c.ask c.memory c.words c.buffer js (b, x) e o (λ v. k v z) y) in
      rw w (unfold look_up held_for undrawn_only worn is_source top_of joined in h)

  refused-hand : (number s c ≡ 0 → ⊥) → (step s c).0 ≡ s
  refused-hand n = refused-keeps s c o n

-- once found, that stays
once-found : (ds : List Call) (s : State) (b : ℕ) (x : Found) → hand s.request ≡ some (b, some x) → Between s ds → hand (after s ds).request ≡ some (b, some x)
unfolding after
once-found [] s b x e w = e
once-found (d ∷ ds) s b x e w = once-found ds (step s d).0 b x (go (eqb (number s d) 0) refl) w.2
  where
    go : (t : Bool) → eqb (number s d) 0 ≡ t → hand (step s d).0.request ≡ some (b, some x)
    go true z = unfold is_none in (accepted-hand s d b (some x) e w.0 w.1 (eqb-true (number s d) 0 z))
    go false z = rw (refused-hand s d b (some x) e w.0 w.1 (eqb-false (number s d) 0 z)) e

-- Document 02, P4: "Once it ceases to be held it isn't held again": until it is collected, it is in hand and has what was found
pub not-held-again : (ds : List Call) (s : State) (r : Request) → s.request ≡ some r → held r ≡ false → Between s ds
    → (r' : Request) × (((after s ds).request ≡ some r') × (r'.block ≡ r.block) × (r'.found ≡ r.found))
not-held-again ds s r e u w = go r.found refl
  where
    in-hand : (o : Option Request) → hand o ≡ some (r.block, r.found) → (r' : Request) × ((o ≡ some r') × (r'.block ≡ r.block) × (r'.found ≡ r.found))
    in-hand none k = absurd (no-hand (r.block, r.found) k)
    in-hand (some x) k =
        let p = one-hand (x.block, x.found) (r.block, r.found) k in
        (x, (refl, ap (λ (h : Hand). h.0) p, ap (λ (h : Hand). h.1) p))

    go : (x : Option Found) → r.found ≡ x → (r' : Request) × (((after s ds).request ≡ some r') × (r'.block ≡ r.block) × (r'.found ≡ r.found))
    go none k =
        let v : is_none r.found ≡ true = ap is_none k ∙ unfold is_none in refl in
        let v' : is_none r.found ≡ false = unfold held in u in
        absurd (true≢false (sym v ∙ v'))
    go (some x) k = in-hand (after s ds).request (once-found ds s r.block x (ap hand e ∙ ap (λ (y : Option Found). some (r.block, y)) k) w ∙ ap (λ (y : Option Found). some (r.block, y)) (sym k))

-- ---- What a collect tells

-- a finished request has found its block
unfinished : (s : State) (b : ℕ) → hand s.request ≡ some (b, none) → in_hand (finished s) s.request ≡ true → ⊥
unfolding in_hand finished held is_none
unfinished s b e = go s.request e
  where
    by : (r : Request) (x y : Bool) → r.found ≡ none → (not (is_none r.found) && x && y) ≡ true → ⊥
    by r x y w = rw w (λ k. true≢false (sym k))

    go : (o : Option Request) → hand o ≡ some (b, none) → in_hand (finished s) o ≡ true → ⊥
    go none w k = true≢false (sym k)
    go (some r) w k = by r _ _ (ap (λ (p : Hand). p.1) (one-hand (r.block, r.found) (b, none) w)) k

carried-hand : (o : Option Request) (b : ℕ) (x : Found) → hand o ≡ some (b, some x) → carried o ≡ x
unfolding carried
carried-hand none b x e = absurd (no-hand (b, some x) e)
carried-hand (some r) b x e = ap (λ (p : Hand). get_or p.1 found_nowhere) (one-hand (r.block, r.found) (b, some x) e)

module _ (e : Call) (w : e.ask ≡ collect) where
  collect-passed : (s : State) → number s e ≡ 0 → Passed (questions s collect e.memory e.words e.buffer)
  collect-passed s z = let p = accepted-passed s e z in rw w at p

  collect-found : (s : State) → number s e ≡ 0 → (step s e).1.found ≡ carried s.request
  collect-found s z = ap (λ (r : State × Run.Outcome). r.1.found) (step-accepted s e z) ∙ (unfold Run.accepted in (ap (Run.handed_found s) w ∙ (unfold Run.handed_found in refl)))

  -- from a state whose request has found its block if it could
  found_first : (ds : List Call) (s : State) (b : ℕ) → hand s.request ≡ some (b, looked s b none) → Between s ds → number (after s ds) e ≡ 0
      → (step (after s ds) e).1.found ≡ first_found s b ds
  unfolding first_found is_none after
  found_first [] s b h k z = go (held_for s (s.partition b)) refl
    where
      go : (t : Bool) → held_for s (s.partition b) ≡ t → (step s e).1.found ≡ look_up s b
      go true u = absurd (unfinished s b (rw u at h) (unfold questions in (collect-passed s z).1.1.0))
      go false u = collect-found s z ∙ carried-hand s.request b (look_up s b) (rw u at h)
  found_first (d ∷ ds) s b h k z = go (held_for s (s.partition b)) refl (found_first ds)
    where
      next : hand s.request ≡ some (b, none) → (t : Bool) → eqb (number s d) 0 ≡ t → hand (step s d).0.request ≡ some (b, looked (step s d).0 b none)
      next h' true v = accepted-hand s d b none h' k.0 k.1 (eqb-true (number s d) 0 v)
      next h' false v = rw (refused-hand s d b none h' k.0 k.1 (eqb-false (number s d) 0 v)) h

      go : (t : Bool) → held_for s (s.partition b) ≡ t
          → ((x : State) (b : ℕ) → hand x.request ≡ some (b, looked x b none) → Between x ds → number (after x ds) e ≡ 0 → (step (after x ds) e).1.found ≡ first_found x b ds)
          → (step (after (step s d).0 ds) e).1.found ≡ (if held_for s (s.partition b) then first_found (step s d).0 b ds else look_up s b)
      go true u ih = rw u (ih (step s d).0 b (next (rw u at h) (eqb (number s d) 0) refl) k.2 z)
      go false u ih =
          let x = once-found (d ∷ ds) s b (look_up s b) (rw u at h) k in
          rw u (collect-found (after (step s d).0 ds) z ∙ carried-hand (after (step s d).0 ds).request b (look_up s b) (unfold after in x))

-- What a collect tells is where the block was in the first state, from the request's acceptance on, in which no job held requests for its
-- partition; a rebuild may have moved it until then
pub found-when-released : (s : State) (c : Call) (k b : ℕ) (bs : List ℕ) → c.ask ≡ request k b bs → number s c ≡ 0 → (ds : List Call) → Between (step s c).0 ds
    → (e : Call) → e.ask ≡ collect → number (after (step s c).0 ds) e ≡ 0 → (step (after (step s c).0 ds) e).1.found ≡ first_found (step s c).0 b ds
found-when-released s c k b bs w z ds v e u y = found_first e u ds (step s c).0 b taken v y
  where
    accepts : (a : Ask) (js : List ℕ) → a ≡ request k b bs → hand (perform s a js).request ≡ some (b, none)
    accepts a js q = rw q (unfold perform accept in refl)

    taken : hand (step s c).0.request ≡ some (b, looked (step s c).0 b none)
    taken =
        let js : List ℕ = Run.numbers_of (draws (bounds s c.ask) c.words) in
        let x : (step s c).0 ≡ release (perform s c.ask js) = accepted-leaves s c z in
        let h = release-hand (perform s c.ask js) b none (accepts c.ask js w) in
        rw x (unfold look_up held_for undrawn_only worn is_source top_of joined in h)
