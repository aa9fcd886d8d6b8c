-- The theorem of the plain array.
use Rattle.std.specs.Prelude.{◌≡◌, Bool, List, [], ◌∷◌, ℕ, suc, leb, length, if◌then◌else◌}
use Rattle.std.proofs.Math.Path.{refl, ap}
use Rattle.std.proofs.Common.{sym, ◌∙◌, true≢false, arith}
use Rattle.std.proofs.Math.Bool.{true, false}
use Rattle.std.proofs.Math.Option.{Option, none, some, map}
use Rattle.std.proofs.Math.Dec.{eqb}
use borrow.Author.Tests.{eqb-true, eqb-false, eq-eqb, ne_eqb, leb-true}
use Rattle.reachable.proofs.LastSaved.{OfState, nothing, own, step-last}
use Rattle.rules.specs.Resumes.{Resumes, saved_by, OfLast}
use Rattle.reachable.proofs.Saved.{Rests, saveable, loaded-kept}
use Rattle.rules.specs.Laws.Range.{InRange}
use Rattle.rules.specs.Laws.Form.Saveable.{Saveable, over as over_state}
use Rattle.rules.proofs.Laws.Form.Back.{contents_of, orders_in, agrees, saved-back}
use Rattle.rules.specs.Form.Loading.{loads}
use Rattle.rules.specs.Form.Longest.{longest}
use Rattle.lists.specs.Search
use Rattle.lists.specs.Tests
use Rattle.lists.specs.Tests.{and_l, and_r}
use Rattle.rules.specs.Blocks
use Rattle.rules.specs.Collect
use Rattle.rules.specs.Completion
use Rattle.rules.specs.Completion.{complete}
use Rattle.rules.specs.Draws.{Drawn, draws, Drew}
use Rattle.rules.proofs.Laws.Answers.{Passed, accepted-passed, step-accepted, step-refused, step-number, open-first}
use Rattle.rules.specs.Laws.Decided.{StepIn}
use Rattle.rules.proofs.Laws.Decided.{decide-in, step_bounds-pos}
use Rattle.rules.proofs.Laws.Kept.{completed-in, given-in, drew-of}
use Rattle.rules.proofs.Laws.Released.{released-same, written-release}
use Rattle.rules.specs.Open.{fresh}
use Rattle.rules.specs.Questions
use Rattle.rules.specs.Questions.{Ask, opening, request, turn, completion, collect, save, load, Call, bounds, number, questions}
use Rattle.rules.specs.Ranges.{is_kind}
use Rattle.rules.specs.Rebuild
use Rattle.rules.specs.Rebuild.{fills, gathered}
use Rattle.rules.specs.Request
use Rattle.rules.specs.Request.{accept}
use Rattle.rules.specs.Run
use Rattle.rules.specs.Run.{Outcome, act, step, run}
use Rattle.rules.specs.State.{State, Command, cmd, read, Request, closed, write}
use Rattle.rules.specs.Turn
use Rattle.rules.specs.Turn.{Step, idle, no_dummy, read_for_request, read_for_job, rebuild, write_next, decide, command, do_step}
use Rattle.reachable.proofs.Consequences.{request-unread, job-unread}
use Rattle.reachable.proofs.Decided.{Decided, decided}
use Rattle.reachable.specs.Invariant.{Reached}
use Rattle.reachable.proofs.Kept.Completion.{completed-kept}
use Rattle.reachable.proofs.Kept.Release.{release-kept}
use Rattle.reachable.proofs.Kept.Rebuild.Drawing.{drawing}
use Rattle.reachable.proofs.Reached.{Was, shut, live, closed-out, nothing-loads, performed-kept}
use Rattle.array.specs.Claim.{Asked, store, Slots, Host, Expected, Brings, Has, change, Hands, sends, next, expects, Moves, Honest, Plain, Claim}
use Rattle.array.proofs.Collected.{collected-has}
use Rattle.array.proofs.Collects.{collect-contents, fresh-contents}
use Rattle.array.proofs.Completions.{complete_read-contents, complete_write-contents}
use Rattle.array.specs.Contents.{Contents}
use Rattle.array.proofs.Contents.{moved}
use Rattle.array.proofs.Turns.{request-contents, job-contents, rebuild-contents, write-contents}

-- the request in hand, as it was asked
unfoldable asked_of : Option Request → Option Asked
asked_of none = none
asked_of (some r) = some (record { kind = r.kind; block = r.block; bytes = r.bytes })

other-kind : (k : ℕ) → is_kind k ≡ true → ¬ (k ≡ read) → k ≡ write
unfolding is_kind Tests.between
other-kind k e n = omega (arith, leb-true read k (and_l (leb read k) (leb k write) e), leb-true k write (and_r (leb read k) (leb k write) e))

-- a read leaves the slots as they are
store-read : (q ℓ i : ℕ) (bs : List ℕ) (f : Slots) → store (cmd read q ℓ i) bs f ≡ f
unfolding store
store-read q ℓ i bs f = refl

-- A reached state, its host, and what is expected of it
record Tied (s : State) (host : Host) (m : Expected) : Type 0 where
  pub reached : Reached s
  pub asked : asked_of s.request ≡ m.asked
  pub contents : Contents s host.last host.has m.array

module _ (s : State) (last has : Slots) (array : ℕ → List ℕ) (f : Reached s) (k : Contents s last has array) where
  -- a turn
  turn-contents : (x : Step) (js : List ℕ) → Decided s x → StepIn s x → Drew (Turn.step_bounds x) js → Reached (do_step x js s)
      → Contents (do_step x js s) (store (command x) (Run.written (do_step x js s) (command x)) last) has array
  unfolding command Turn.step_bounds
  turn-contents idle js d h w f' = unfold do_step store in k
  turn-contents no_dummy js d h w f' = unfold do_step store in k
  turn-contents (read_for_request q ℓ i) js d h w f' = rw (store-read q ℓ i (Run.written (do_step (read_for_request q ℓ i) js s) (cmd read q ℓ i)) last) (request-contents s f last has array k q ℓ i h.1 h.2 (request-unread s f q ℓ i d) js)
  turn-contents (read_for_job q ℓ i) js d h w f' = rw (store-read q ℓ i (Run.written (do_step (read_for_job q ℓ i) js s) (cmd read q ℓ i)) last) (job-contents s f last has array k q ℓ i h.1 h.2 (job-unread s f q ℓ i d) d.calm js)
  turn-contents (rebuild q ls) js d h w f' = unfold do_step in (rebuild-contents s f last has array k q ls (fills ls js (gathered s q)) (drawing s f q ls js d w) f')
  turn-contents (write_next q t i) js d h w f' = write-contents s f last has array k q t i d js f'

  -- a completion
  complete-contents : (c : Command) (bs : List ℕ) → is_kind c.kind ≡ true → Search.any (Completion.is_command c) s.outstanding ≡ true → Brings last has (completion c bs) → Contents (complete c bs s) last has array
  unfolding complete
  complete-contents c bs kind out brings = go (eqb c.kind read) refl
    where
      go : (t : Bool) → eqb c.kind read ≡ t → Contents (if t then Completion.complete_read c bs s else Completion.complete_write c s) last has array
      go true e = let z = eqb-true c.kind read e in complete_read-contents s f last has array k c z out bs (brings.1 z)
      go false e = let z = other-kind c.kind kind (eqb-false c.kind read e) in complete_write-contents s last has array k c z (brings.0 z) (completed-kept s f c (completed-in s f.range c))

  -- a request released
  release-contents : Contents (Request.release s) last has array
  unfolding Blocks.zeros
  release-contents = record { absent = k.absent; values = record { waiting = k.values.waiting; drawn = k.values.drawn; known = k.values.known }; written = k.written; settled = k.settled }

  accept-contents : (j b : ℕ) (bs js : List ℕ) → Contents (accept j b bs js s) last has array
  unfolding accept Blocks.zeros
  accept-contents j b bs js = record { absent = k.absent; values = record { waiting = k.values.waiting; drawn = k.values.drawn; known = k.values.known }; written = k.written; settled = k.settled }

-- What was asked stays asked
step-asked : (s : State) (x : Step) (js : List ℕ) → asked_of (do_step x js s).request ≡ asked_of s.request
unfolding do_step Turn.mark_read Turn.send Rebuild.do_rebuild
step-asked s idle js = refl
step-asked s no_dummy js = refl
step-asked s (read_for_request q ℓ i) js = go s.request
  where
    go : (o : Option Request) → asked_of (Request.pass_level ℓ (suc (length s.outstanding)) o) ≡ asked_of o
    go none = unfold asked_of Request.pass_level in refl
    go (some r) = unfold asked_of Request.pass_level in refl
step-asked s (read_for_job q ℓ i) js = refl
step-asked s (rebuild q ls) js = refl
step-asked s (write_next q t i) js = refl

release-asked : (s : State) → asked_of (Request.release s).request ≡ asked_of s.request
unfolding asked_of
release-asked s = released-same asked_of (λ r x n. refl) s s.request

complete-asked : (s : State) (c : Command) (bs : List ℕ) → asked_of (complete c bs s).request ≡ asked_of s.request
unfolding complete Completion.complete_read Completion.complete_write Completion.completed Completion.gather_bytes Completion.finish_job Completion.end_job
complete-asked s c bs = go (eqb c.kind 1) (Blocks.holder s c.partition c.level c.slot) s.queue ∙ less s.request
  where
    s' : State
    s' = Completion.completed c s

    less : (o : Option Request) → asked_of (map (Completion.awaits_less c s.outstanding) o) ≡ asked_of o
    less none = unfold asked_of in refl
    less (some r) = unfold asked_of in refl

    ended : (q : ℕ) (t : Bool) → asked_of (if t then Completion.end_job q s' else s').request ≡ asked_of s'.request
    ended q true = refl
    ended q false = refl

    go : (t : Bool) (b : Option ℕ) (qs : List ℕ) → asked_of (if t then Completion.gather_bytes b bs s' else Completion.finish_job qs s').request ≡ asked_of s'.request
    go true none qs = refl
    go true (some b) qs = refl
    go false b [] = refl
    go false b (q ∷ qs) = ended q (Completion.job_done s' q)

-- A state that calls left: closed, or tied to what is expected
data Kept (s : State) (host : Host) (m : Expected) : Type 0 where
  over : s ≡ closed → Kept s host m
  tied : Tied s host m → Kept s host m

kept-was : (s : State) (host : Host) (m : Expected) → Kept s host m → Was s
kept-was s host m (over e) = shut e
kept-was s host m (tied t) = live t.reached

kept-tied : (s : State) (host : Host) (m : Expected) (memory : ℕ) → Kept s host m → Questions.ready s memory ≡ true → Tied s host m
kept-tied s host m memory (over w) e = absurd (closed-out (rw w at (given-in s memory e)))
kept-tied s host m memory (tied t) e = t

kept-range : (s : State) (host : Host) (m : Expected) → Kept s host m → InRange s → Tied s host m
kept-range s host m (over w) e = absurd (closed-out (rw w at e))
kept-range s host m (tied t) e = t

-- A load is of what a save has put into its buffer
abbrev Fits : State → Ask → Type 0
Fits s (opening h) = Unit {0}
Fits s (request k b bs) = Unit {0}
Fits s turn = Unit {0}
Fits s (completion c bs) = Unit {0}
Fits s collect = Unit {0}
Fits s save = Unit {0}
Fits s (load form) = OfState s form

-- What it brings has the contents of every block
module _ (s : State) (f : Reached s) (r : Rests s) (last has : Slots) (array : ℕ → List ℕ) (k : Contents s last has array) where
  abbrev v : Saveable s
  v = saveable s f r

  loaded-contents : Contents (over_state (contents_of s v) (orders_in s v) s) last has array
  unfolding Blocks.zeros
  loaded-contents = record {
    absent = k.absent;
    values = record {
      waiting = λ b hb m. (agrees s v).contents b m ∙ k.values.waiting b hb m;
      drawn = λ b ℓ i hb e z. absurd (z.1 (f.unbegun r.unbegun).1);
      known = λ b ℓ i hb e n u. absurd (n (v.placed b ℓ i hb e).1);
    };
    written = k.written;
    settled = k.settled;
  }

-- A collect hands out the array's contents
collect-hands : (s : State) (host : Host) (m : Expected) → Tied s host m → (o : Option Request) → s.request ≡ o → Questions.in_hand (Collect.finished s) o ≡ true
    → Has m.asked m.array (Collect.answer s o) × Contents (Collect.collected o s) host.last host.has (change m.asked m.array)
unfolding Questions.in_hand Collect.answer Collect.collected
collect-hands s host m t none e done = absurd (true≢false (sym done))
collect-hands s host m t (some r) e done =
    let a : m.asked ≡ asked_of (some r) = sym t.asked ∙ ap asked_of e in
    rw a (unfold asked_of in (
      collected-has s t.reached host.last host.has m.array t.contents r e done,
      collect-contents s t.reached host.last host.has m.array t.contents r e done,
    ))

collect-asked : (s : State) (o : Option Request) → s.request ≡ o → asked_of (Collect.collected o s).request ≡ none
unfolding Collect.collected Collect.finish asked_of
collect-asked s none e = ap asked_of e
collect-asked s (some r) e = refl

-- An accepted call
module _ (s : State) (host : Host) (m : Expected) (memory : ℕ) (ws : List ℕ) (n : ℕ) (l : Kept s host m) where
  abbrev result : Ask → State × Outcome
  result a = Run.accepted s a (draws (bounds s a) ws)

  abbrev drawn : Ask → List ℕ
  drawn a = Run.numbers_of (draws (bounds s a) ws)

  done-tied : (a : Ask) → Passed (questions s a memory ws n) → Brings host.last host.has a → Fits s a → Hands m a (result a).1 × Tied (Run.perform s a (drawn a)) (record { last = sends host.last (result a).1; has = host.has }) (next m a)
  unfolding Run.accepted next act Run.perform questions Run.sent_command Run.handed bounds sends store
  done-tied (opening h) p w v = (
    tt,
    record {
      reached = performed-kept s (opening h) memory ws n (kept-was s host m l) p tt;
      asked = unfold fresh asked_of in refl;
      contents = fresh-contents h (drawn (opening h)) host.last host.has;
    },
  )
  done-tied (request j b bs) p w v =
      let t = kept-tied s host m memory l (and_l (Questions.ready s memory) (is_kind j) p.0) in (
        tt,
        record {
          reached = performed-kept s (request j b bs) memory ws n (kept-was s host m l) p tt;
          asked = unfold accept asked_of in refl;
          contents = accept-contents s host.last host.has m.array t.reached t.contents j b bs (drawn (request j b bs));
        },
      )
  done-tied turn p w v =
      let t = kept-tied s host m memory l p.0 in
      let f = performed-kept s turn memory ws n (kept-was s host m l) p tt in (
        tt,
        record {
          reached = f;
          asked = step-asked s (decide s) (drawn turn) ∙ t.asked;
          contents = rw (written-release (do_step (decide s) (drawn turn) s) (command (decide s))) (turn-contents s host.last host.has m.array t.reached t.contents (decide s) (drawn turn) (decided s) (decide-in s t.reached.range) (drew-of (Turn.step_bounds (decide s)) ws (step_bounds-pos (decide s)) p.1.1.1.1.0) f);
        },
      )
  done-tied (completion c bs) p w v =
      let t = kept-tied s host m memory l (and_l (Questions.ready s memory) (is_kind c.kind) p.0) in (
        tt,
        record {
          reached = performed-kept s (completion c bs) memory ws n (kept-was s host m l) p tt;
          asked = complete-asked s c bs ∙ t.asked;
          contents = complete-contents s host.last host.has m.array t.reached t.contents c bs (and_r (Questions.ready s memory) (is_kind c.kind) p.0) p.1.0 w;
        },
      )
  done-tied collect p w v =
      let t = kept-tied s host m memory l p.0 in
      let x = collect-hands s host m t s.request refl p.1.1.0 in (
        x.0,
        record {
          reached = performed-kept s collect memory ws n (kept-was s host m l) p tt;
          asked = collect-asked s s.request refl;
          contents = x.1;
        },
      )
  done-tied save p w v = (tt, kept-tied s host m memory l (and_l (Questions.ready s memory) (leb (longest s.shape) n) p.0))
  done-tied (load form) p w (nothing e) = absurd (true≢false (sym p.1.0 ∙ ap loads e ∙ nothing-loads))
  done-tied (load form) p w (own e i r) =
      let t = kept-range s host m l i in (
        tt,
        rw (e, saved-back s (saveable s t.reached r)) (record {
          reached = loaded-kept s t.reached r;
          asked = t.asked;
          contents = loaded-contents s t.reached r host.last host.has m.array t.contents;
        }),
      )

  -- ..and then a request may be released
  call-tied : (a : Ask) → Passed (questions s a memory ws n) → Brings host.last host.has a → Fits s a → Hands m a (result a).1 × Tied (result a).0 (record { last = sends host.last (result a).1; has = host.has }) (next m a)
  unfolding Run.accepted act
  call-tied a p w v =
      let t = done-tied a p w v in (
        t.0,
        record {
          reached = release-kept (Run.perform s a (drawn a)) t.1.reached;
          asked = release-asked (Run.perform s a (drawn a)) ∙ t.1.asked;
          contents = release-contents (Run.perform s a (drawn a)) (sends host.last (result a).1) host.has (next m a).array t.1.reached t.1.contents;
        },
      )

refuse-kept : (s : State) (host : Host) (m : Expected) (a : Ask) → Kept s host m → Kept (Run.refuse s a) host m
unfolding Run.refuse
refuse-kept s host m (opening h) l = over refl
refuse-kept s host m (request k b bs) l = l
refuse-kept s host m turn l = l
refuse-kept s host m (completion c bs) l = l
refuse-kept s host m collect l = l
refuse-kept s host m save l = l
refuse-kept s host m (load form) l = over refl

expects-yes : (m : Expected) (a : Ask) (o : Outcome) → o.number ≡ 0 → expects m a o ≡ next m a
unfolding expects
expects-yes m a o e = rw (eq-eqb o.number 0 e)

expects-no : (m : Expected) (a : Ask) (o : Outcome) → ¬ (o.number ≡ 0) → expects m a o ≡ m
unfolding expects
expects-no m a o e = rw (ne_eqb o.number 0 e)

accepted-zero : (s : State) (a : Ask) (d : Option Drawn) → (Run.accepted s a d).1.number ≡ 0
unfolding Run.accepted
accepted-zero s a d = refl

-- a refusal sends no write
refused-sends : (last : Slots) (n : ℕ) → sends last (Run.refused n) ≡ last
unfolding sends store Run.refused
refused-sends last n = refl

-- the host may move before the call
moved-kept : (s : State) (host : Host) (m : Expected) (x : Slots) → Moves host x → Kept s host m → Kept s (record { last = host.last; has = x }) m
moved-kept s host m x f (over e) = over e
moved-kept s host m x f (tied t) = tied (record { reached = t.reached; asked = t.asked; contents = moved t.contents x f })

-- Every call
step_kept : (s : State) (host : Host) (m : Expected) (c : Call) → Kept s host m → ((step s c).1.number ≡ 0 → Brings host.last host.has c.ask) → Fits s c.ask
    → ((step s c).1.number ≡ 0 → Hands m c.ask (step s c).1) × Kept (step s c).0 (record { last = sends host.last (step s c).1; has = host.has }) (expects m c.ask (step s c).1)
step_kept s host m c l w v = go (eqb (number s c) 0) refl
  where
    go : (t : Bool) → eqb (number s c) 0 ≡ t → ((step s c).1.number ≡ 0 → Hands m c.ask (step s c).1) × Kept (step s c).0 (record { last = sends host.last (step s c).1; has = host.has }) (expects m c.ask (step s c).1)
    go true e =
        let z = eqb-true (number s c) 0 e in
        let x = call-tied s host m c.memory c.words c.buffer l c.ask (accepted-passed s c z) (w (step-number s c ∙ z)) v in
        rw (step-accepted s c z) ((λ y. x.0), rw (expects-yes m c.ask (Run.accepted s c.ask (draws (bounds s c.ask) c.words)).1 (accepted-zero s c.ask _)) (tied x.1))
    go false e =
        let z = eqb-false (number s c) 0 e in (
          (λ y. absurd (z (sym (step-number s c) ∙ y))),
          rw (expects-no m c.ask (step s c).1 (λ y. z (sym (step-number s c) ∙ y)), step-refused s c z, refused-sends host.last (number s c)) (refuse-kept s host m c.ask l),
        )

-- a call, after the host has moved to x
abbrev host_at : Host → Slots → Host
host_at host x = record { last = host.last; has = x }

last_fits : (s : State) (x : List ℕ) → OfState s x → (a : Ask) → OfLast x a → Fits s a
last_fits s x l (opening h) e = tt
last_fits s x l (request k b bs) e = tt
last_fits s x l turn e = tt
last_fits s x l (completion c bs) e = tt
last_fits s x l collect e = tt
last_fits s x l save e = tt
last_fits s x l (load form) e = rw e l

run-plain : (cs : List Call) (s : State) (host : Host) (m : Expected) (x : List ℕ) → Kept s host m → OfState s x → Resumes x cs (run s cs) → Honest host cs (run s cs) → Plain m cs (run s cs)
unfolding run
run-plain [] s host m x l v r w = tt
run-plain (c ∷ cs) s host m x l v r w =
    let z = step_kept s (host_at host w.0) m c (moved-kept s host m w.0 w.1.0 l) w.1.1 (last_fits s x v c.ask r.0) in
    (z.0, run-plain cs (step s c).0 (record { last = sends host.last (step s c).1; has = w.0 }) (expects m c.ask (step s c).1) (saved_by c.ask (step s c).1) z.1 (step-last s c) r.1 w.1.2)

-- THE THEOREM
pub plain-array : Claim
unfolding run
plain-array s host m h c cs e r w = (first.0, run-plain cs (step s c).0 (record { last = sends host.last (step s c).1; has = w.0 }) (expects m c.ask (step s c).1) (saved_by c.ask (step s c).1) first.1 (step-last s c) r.1 w.1.2)
  where
    first : ((step s c).1.number ≡ 0 → Hands m c.ask (step s c).1) × Kept (step s c).0 (record { last = sends host.last (step s c).1; has = w.0 }) (expects m c.ask (step s c).1)
    first = rw (open-first s c h e) (step_kept closed (host_at host w.0) m c (over refl) (rw (open-first s c h e) at w.1.1) (rw e tt))
