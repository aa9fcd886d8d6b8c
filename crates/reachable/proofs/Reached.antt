-- Every state that calls left is closed, or has the invariant.
use Rattle.std.specs.Prelude.{◌≡◌, Bool, true, ◌&&◌, List, [], ℕ, ◌<◌, eqb, leb, length, replicate, if◌then◌else◌}
use Rattle.std.proofs.Math.Path.{refl}
use Rattle.std.proofs.Common.{sym, ◌∙◌, true≢false, eqb-true}
use Rattle.std.proofs.Math.Bool.{false}
use Rattle.std.proofs.Math.Option.{Option, none, some}
use Rattle.std.proofs.Math.ListN.{length-replicate}
use Rattle.std.proofs.lemmas.Bool.{eqb-false}
use Rattle.reachable.specs.Terms.{CallsLeft, opened, called, loaded}
use Rattle.reachable.proofs.Saved.{rest-facts, saveable, loaded-kept}
use Rattle.rules.proofs.Laws.Form.Back.{saved-back}
use Rattle.rules.specs.Form.Payload.{saved_form}
use Rattle.rules.specs.Form.Sums.{out_of_blocks, out_of}
use Rattle.rules.specs.Form.Reading.{get_form, get_number, get_bytes, and_then}
use Rattle.rules.specs.Open
use Rattle.rules.specs.Form.Longest.{longest}
use Rattle.rules.proofs.Laws.Orders.{drew-length}
use Rattle.rules.specs.Form.Loading.{loads, loaded_form, is_sound}
use Rattle.lists.specs.All.{nil, cons, all_replicate}
use Rattle.lists.specs.Search
use Rattle.lists.specs.Tests.{and_l}
use Rattle.rules.specs.Blocks
use Rattle.rules.specs.Collect
use Rattle.rules.specs.Completion
use Rattle.rules.specs.Draws.{draws, Drew}
use Rattle.rules.specs.Laws.Answers.{opens}
use Rattle.rules.proofs.Laws.Answers.{Passed, accepted-passed, step-accepted, step-refused, open-first, load-first}
use Rattle.rules.specs.Laws.Decided.{StepIn}
use Rattle.rules.proofs.Laws.Decided.{decide-in, step_bounds-pos}
use Rattle.rules.proofs.Laws.Kept.{perform-in, completed-in, fresh_in_lem, drew-of, given-in}
use Rattle.rules.proofs.Laws.Levels.{partitions-pos}
use Rattle.rules.specs.Laws.Range.{InRange}
use Rattle.rules.proofs.Laws.Range.{facts-range}
use Rattle.rules.specs.Memory
use Rattle.rules.specs.Questions
use Rattle.rules.specs.Questions.{number, questions, bounds, Ask, opening, request, turn, completion, collect, save, load, Call}
use Rattle.rules.specs.Ranges.{is_kind}
use Rattle.rules.specs.Rebuild.{fills, gathered}
use Rattle.rules.specs.Run
use Rattle.rules.specs.Run.{act, step}
use Rattle.rules.specs.Shape.{Shape, within}
use Rattle.rules.specs.State.{State, Command, Request, closed}
use Rattle.rules.specs.Turn
use Rattle.rules.specs.Turn.{read_for_request, read_for_job, write_next, do_step, decide, Step, idle, no_dummy, rebuild}
use Rattle.rules.specs.Unfold.{model}
use Rattle.reachable.proofs.Decided.{Decided, decided}
use Rattle.reachable.specs.Invariant.{Reached}
use Rattle.reachable.proofs.Kept.Accept.{accept-kept}
use Rattle.reachable.proofs.Kept.Collect.{collect-kept}
use Rattle.reachable.proofs.Kept.Completion.{completed-kept, bytes-kept, finish_job-kept}
use Rattle.reachable.proofs.Kept.JobRead.{job-read-kept}
use Rattle.reachable.proofs.Kept.Open.{fresh_kept}
use Rattle.reachable.proofs.Kept.Rebuild.Commands.{rebuild-kept}
use Rattle.reachable.proofs.Kept.Rebuild.Drawing.{drawing}
use Rattle.reachable.proofs.Kept.Release.{release-kept}
use Rattle.reachable.proofs.Kept.RequestRead.{request-read-kept}
use Rattle.reachable.proofs.Kept.Write.{write_kept}

module _ (s : State) (f : Reached s) where
  step_kept : (x : Step) (js : List ℕ) → Decided s x → StepIn s x → Drew (Turn.step_bounds x) js → InRange (do_step x js s) → Reached (do_step x js s)
  unfolding Turn.step_bounds
  step_kept idle js d h w range = unfold do_step in f
  step_kept no_dummy js d h w range = unfold do_step in f
  step_kept (read_for_request q ℓ i) js d h w range = request-read-kept s f q ℓ i d h.1 h.2 js range
  step_kept (read_for_job q ℓ i) js d h w range = job-read-kept s f q ℓ i d h.1 js range
  step_kept (rebuild q ls) js d h w range = unfold do_step in (rebuild-kept s f q ls (fills ls js (gathered s q)) (drawing s f q ls js d w) range)
  step_kept (write_next q t i) js d h w range = write_kept s f q t i d js range

  complete-kept : (c : Command) (bs : List ℕ) → length bs ≡ (if eqb c.kind 1 then s.shape.B else 0) → InRange (Completion.complete c bs s) → Reached (Completion.complete c bs s)
  unfolding Completion.complete Completion.complete_read Completion.complete_write
  complete-kept c bs many range = go (eqb c.kind 1) many range
    where
      first : Reached (Completion.completed c s)
      first = completed-kept s f c (completed-in s f.range c)

      same : (Completion.completed c s).queue ≡ s.queue
      same = unfold Completion.completed in refl

      go : (t : Bool) → length bs ≡ (if t then s.shape.B else 0) → InRange (if t then Completion.complete_read c bs s else Completion.complete_write c s) → Reached (if t then Completion.complete_read c bs s else Completion.complete_write c s)
      go true many range = bytes-kept (Completion.completed c s) first (Blocks.holder s c.partition c.level c.slot) bs (unfold Completion.completed in many) range
      go false many range = finish_job-kept (Completion.completed c s) first s.queue same range

  collected-kept : (r : Option Request) → s.request ≡ r → Questions.in_hand (Collect.finished s) r ≡ true → InRange (Collect.collected r s) → Reached (Collect.collected r s)
  unfolding Collect.collected Questions.in_hand
  collected-kept none e fin range = f
  collected-kept (some r) e fin range = collect-kept s f r e fin range

  none_of : (o : Option Request) → Search.is_none o ≡ true → o ≡ none
  unfolding Search.is_none
  none_of none e = refl
  none_of (some r) e = absurd (true≢false (sym e))

-- what a form that is loaded is asked to bring
abbrev pub Brings : Ask → Type 0
Brings (opening h) = Unit {0}
Brings (request k b bs) = Unit {0}
Brings turn = Unit {0}
Brings (completion c bs) = Unit {0}
Brings collect = Unit {0}
Brings save = Unit {0}
Brings (load form) = loads form ≡ true → Reached (loaded_form form)

module _ (s : State) (f : Reached s) where
  -- Every accepted call leaves a state that is reached
  perform_kept : (a : Ask) (m : ℕ) (ws : List ℕ) (k : ℕ) (js : List ℕ) → Passed (questions s a m ws k) → Drew (bounds s a) js → Brings a → Reached (Run.perform s a js)
  unfolding Run.perform questions bounds
  perform_kept a m ws k js p d w = go a p d w (perform-in s f.range a m ws k js p d)
    where
      go : (a : Ask) → Passed (questions s a m ws k) → Drew (bounds s a) js → Brings a → InRange (Run.perform s a js) → Reached (Run.perform s a js)
      go (opening h) p d w range = fresh_kept h js (drew-length (replicate h.N h.P) js d ∙ length-replicate h.N h.P) range
      go (request j b bs) p d w range = accept-kept s f (none_of s f s.request p.1.0) j b bs js range
      go turn p d w range = step_kept s f (decide s) js (decided s) (decide-in s f.range) d range
      go (completion c bs) p d w range = complete-kept s f c bs (eqb-true (length bs) _ p.1.1.0) range
      go collect p d w range = collected-kept s f s.request refl p.1.1.0 range
      go save p d w range = f
      go (load form) p d w range = w p.1.0

  pub act-kept : (a : Ask) (m : ℕ) (ws : List ℕ) (k : ℕ) (js : List ℕ) → Passed (questions s a m ws k) → Drew (bounds s a) js → Brings a → Reached (act s a js)
  unfolding act
  act-kept a m ws k js p d w = release-kept (Run.perform s a js) (perform_kept a m ws k js p d w)

-- A state that calls left: closed, or reached
pub data Was (s : State) : Type 0 where
  shut : s ≡ closed → Was s
  live : Reached s → Was s

pub closed-out : InRange closed → ⊥
unfolding model
closed-out f = true≢false (sym f.shape)

-- an accepted call that is no open was given a state that was reached
pub was-reached : (s : State) (m : ℕ) → Was s → Questions.ready s m ≡ true → Reached s
was-reached s m (live f) e = f
was-reached s m (shut w) e = absurd (closed-out (rw w at (given-in s m e)))

fresh-reached : (h : Shape) (js : List ℕ) → within h ≡ true → Drew (replicate h.N h.P) js → Reached (Open.fresh h js)
fresh-reached h js w d = fresh_kept h js (drew-length (replicate h.N h.P) js d ∙ length-replicate h.N h.P) (fresh_in_lem h js w d)

-- what an accepted call does, before a request is released
pub performed-kept : (s : State) (a : Ask) (m : ℕ) (ws : List ℕ) (k : ℕ) → Was s → Passed (questions s a m ws k) → Brings a → Reached (Run.perform s a (Run.numbers_of (draws (bounds s a) ws)))
unfolding questions bounds
performed-kept s (opening h) m ws k l p w = unfold Run.perform in (fresh-reached h _ p.0 (drew-of _ ws (all_replicate (λ m. 0 < m) h.N h.P (partitions-pos h p.0)) p.1.1.0))
performed-kept s (request j b bs) m ws k l p w =
    let f = was-reached s m l (and_l (Questions.ready s m) (is_kind j) p.0) in
    let h = partitions-pos s.shape f.range.shape in
    perform_kept s f (request j b bs) m ws k _ p (drew-of _ ws (cons h (cons h nil)) p.1.1.1.1.1.1.0) tt
performed-kept s turn m ws k l p w = perform_kept s (was-reached s m l p.0) turn m ws k _ p (drew-of _ ws (step_bounds-pos (decide s)) p.1.1.1.1.0) tt
performed-kept s (completion c bs) m ws k l p w = perform_kept s (was-reached s m l (and_l (Questions.ready s m) (is_kind c.kind) p.0)) (completion c bs) m ws k _ p (unfold draws Run.numbers_of in tt) tt
performed-kept s collect m ws k l p w = perform_kept s (was-reached s m l p.0) collect m ws k _ p (unfold draws Run.numbers_of in tt) tt
performed-kept s save m ws k l p w = unfold Run.perform in (was-reached s m l (and_l (Questions.ready s m) (leb (longest s.shape) k) p.0))
performed-kept s (load form) m ws k l p w = unfold Run.perform in (w p.1.0)

pub accepted-kept : (s : State) (a : Ask) (m : ℕ) (ws : List ℕ) (k : ℕ) → Was s → Passed (questions s a m ws k) → Brings a → Reached (act s a (Run.numbers_of (draws (bounds s a) ws)))
unfolding act
accepted-kept s a m ws k l p w = release-kept (Run.perform s a (Run.numbers_of (draws (bounds s a) ws))) (performed-kept s a m ws k l p w)

refuse-was : (s : State) (a : Ask) → Was s → Was (Run.refuse s a)
unfolding Run.refuse
refuse-was s (opening h) l = shut refl
refuse-was s (request k b bs) l = l
refuse-was s turn l = l
refuse-was s (completion c bs) l = l
refuse-was s collect l = l
refuse-was s save l = l
refuse-was s (load form) l = shut refl

pub step-was : (s : State) (c : Call) → Brings c.ask → Was s → Was (step s c).0
step-was s c w l = go (eqb (number s c) 0) refl
  where
    go : (t : Bool) → eqb (number s c) 0 ≡ t → Was (step s c).0
    go true e = let z = eqb-true (number s c) 0 e in
        rw (step-accepted s c z) (live (unfold Run.accepted in (accepted-kept s c.ask c.memory c.words c.buffer l (accepted-passed s c z) w)))
    go false e = rw (step-refused s c (eqb-false (number s c) 0 e)) (refuse-was s c.ask l)

-- no bytes are no form
pub nothing-loads : loads [] ≡ false
unfolding loads out_of_blocks out_of get_form get_number get_bytes and_then is_sound
nothing-loads = refl

-- an accepted save was given a state in range, at rest
pub save-passed : (u : State) (a : Ask) (m : ℕ) (ws : List ℕ) (n : ℕ) → a ≡ save → Passed (questions u a m ws n) → (Questions.ready u m ≡ true) × (Questions.at_rest u ≡ true)
unfolding questions
save-passed u a m ws n e p =
    let q : Passed (questions u save m ws n) = rw e at p in
    (and_l (Questions.ready u m) (leb (longest u.shape) n) q.0, q.1.0)

-- What a save writes brings a state that is reached
pub saved-brings : (u : State) → Was u → (d : Call) → d.ask ≡ save → loads (step u d).1.bytes ≡ true → Reached (loaded_form (step u d).1.bytes)
saved-brings u l d e = go (eqb (number u d) 0) refl
  where
    writes : (a : Ask) → a ≡ save → (Run.accepted u a (draws (bounds u a) d.words)).1.bytes ≡ saved_form u
    writes a e = rw e (unfold Run.accepted Run.handed in refl)

    go : (t : Bool) → eqb (number u d) 0 ≡ t → loads (step u d).1.bytes ≡ true → Reached (loaded_form (step u d).1.bytes)
    go true z =
        let n = eqb-true (number u d) 0 z in
        let p = save-passed u d.ask d.memory d.words d.buffer e (accepted-passed u d n) in
        let f = was-reached u d.memory l p.0 in
        let r = rest-facts u p.1 in
        rw (step-accepted u d n, writes d.ask e) (λ w. rw (saved-back u (saveable u f r)) (loaded-kept u f r))
    go false z = rw (step-refused u d (eqb-false (number u d) 0 z)) (unfold Run.refused in (λ w. absurd (true≢false (sym w ∙ nothing-loads))))

pub brings-other : (a : Ask) → opens a ≡ false → Brings a
unfolding opens
brings-other (opening h) e = tt
brings-other (request k b bs) e = tt
brings-other turn e = tt
brings-other (completion c bs) e = tt
brings-other collect e = tt
brings-other save e = tt
brings-other (load form) e = absurd (true≢false e)

-- Every state that calls left is closed, or reached
pub reachable : {s : State} → CallsLeft s → Was s
reachable (opened s c h e z) = rw (z, open-first s c h e) (step-was closed c (rw e tt) (shut refl))
reachable (called c l o z) = rw z (step-was _ c (brings-other c.ask o) (reachable l))
reachable (loaded {u = u} s c d l e a z) = rw (z, load-first s c (step u d).1.bytes a) (step-was closed c (rw a (saved-brings u (reachable l) d e)) (shut refl))

-- In such a state `ready` asks only for the memory
pub ready-memory : (s : State) (m : ℕ) → Reached s → Questions.ready s m ≡ leb (Memory.needed s.shape) m
unfolding Questions.ready
ready-memory s m f = rw (facts-range s f.range) (and_yes (leb (Memory.needed s.shape) m))
  where
    and_yes : (t : Bool) → (t && true) ≡ t
    and_yes true = refl
    and_yes false = refl
