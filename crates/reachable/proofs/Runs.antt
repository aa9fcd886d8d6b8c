-- Document 02, P7, of states that calls left: with how many jobs a run begins, that their number is fixed then, and what its end does. Stated over the
-- rules, with nothing of the invariant (the words are in Terms). RunLasts has the second over lists of calls.
use Rattle.std.proofs.Math.Path.{◌≡◌, refl, ap, sym, subst}
use Rattle.std.proofs.Common.{◌∙◌, true≢false, arith, eqb-true}
use Rattle.std.specs.Prelude.{◌⊎◌, Bool, List, [], ◌∷◌, ℕ, ◌+◌, ◌≤◌, eqb, if◌then◌else◌}
use Rattle.std.proofs.Math.Logic.{inl, inr, ⊎_elim}
use Rattle.std.proofs.Math.Bool.{true, false, not}
use Rattle.std.proofs.Math.Option.{Option, none, some}
use Rattle.std.proofs.Math.ListN.{length}
use Rattle.std.proofs.lemmas.Bool.{eqb-false}
use Rattle.lists.specs.Search.{keep}
use Rattle.lists.specs.Tables.{put_same, put_other}
use Rattle.lists.specs.Tests.{and_l}
use Rattle.rules.specs.Blocks.{holder}
use Rattle.rules.specs.Collect.{collected, finish}
use Rattle.rules.specs.Completion
use Rattle.rules.specs.Completion.{complete}
use Rattle.rules.specs.Draws.{draws}
use Rattle.rules.specs.Jobs.{queued, begun_with, joined, levels_of, leave_queue, slot_count}
use Rattle.rules.specs.Laws.Answers.{opens}
use Rattle.rules.proofs.Laws.Answers.{Passed, accepted-passed, accepted-leaves, step-refused, refuse-keeps}
use Rattle.rules.proofs.Laws.Kept.{completed-in}
use Rattle.rules.specs.Laws.Levels.{Joins}
use Rattle.rules.proofs.Laws.Levels.{levels-pos}
use Rattle.rules.proofs.Laws.Rebuilt.{front-joins}
use Rattle.rules.specs.Laws.Single.Rules.{written_apart}
use Rattle.rules.proofs.Laws.Together.{writes-together}
use Rattle.rules.specs.Levels.{joins, grown, written_levels}
use Rattle.rules.specs.Questions
use Rattle.rules.specs.Questions.{Ask, opening, request, turn, completion, collect, save, load, Call, questions, bounds, number}
use Rattle.rules.specs.Ranges.{is_kind}
use Rattle.rules.specs.Rebuild.{do_rebuild}
use Rattle.rules.specs.Request.{is_source, accept, release}
use Rattle.rules.specs.Run
use Rattle.rules.specs.Run.{perform, step}
use Rattle.rules.specs.State.{State, Command, read, Request, closed}
use Rattle.rules.specs.Turn
use Rattle.rules.specs.Turn.{Step, idle, no_dummy, read_for_request, read_for_job, rebuild, write_next, decide, do_step}
use Rattle.reachable.proofs.Consequences.{busy-begun, joined-queued, done-why}
use Rattle.reachable.proofs.Decided.{Decided, decided}
use Rattle.reachable.specs.Invariant.{Reached}
use Rattle.reachable.proofs.Kept.Completion.{completed-kept}
use Rattle.reachable.specs.Live.{Running}
use Rattle.reachable.proofs.Live.{joined-begun, front-is, front_rest, source-why}
use Rattle.reachable.proofs.Pending.{leave-queue-length, leave-queue-less, leave-queue-others}
use Rattle.reachable.proofs.Reached.{Was, reachable, live, shut, was-reached}
use Rattle.reachable.proofs.Slots.{front-in}
use Rattle.reachable.specs.Terms.{CallsLeft, Ends}

-- ---- A turn

-- it begins the front job's run, with the jobs that may join, or leaves their number as it is
turn-begun : (s : State) (js : List ℕ) → ((do_step (decide s) js s).begun ≡ s.begun)
    ⊎ ((q : ℕ) × (rest : List ℕ) × ((s.queue ≡ q ∷ rest) × ((do_step (decide s) js s).begun ≡ joined s q)))
unfolding do_step Turn.mark_read Turn.send do_rebuild
turn-begun s js = go (decide s) (decided s)
  where
    source : (p ℓ i : ℕ) (t : Bool) → is_source s p ℓ ≡ t → ((if t then joined s p else s.begun) ≡ s.begun)
        ⊎ ((q : ℕ) × (rest : List ℕ) × ((s.queue ≡ q ∷ rest) × ((if t then joined s p else s.begun) ≡ joined s q)))
    source p ℓ i true k = let w = front_rest s.queue p (source-why s p ℓ k).0 in inr (p, w.0, (w.1, refl))
    source p ℓ i false k = inl refl

    go : (x : Step) → Decided s x → ((do_step x js s).begun ≡ s.begun) ⊎ ((q : ℕ) × (rest : List ℕ) × ((s.queue ≡ q ∷ rest) × ((do_step x js s).begun ≡ joined s q)))
    go idle d = inl refl
    go no_dummy d = inl refl
    go (read_for_request p ℓ i) d = source p ℓ i (is_source s p ℓ) refl
    go (read_for_job p ℓ i) d = inr (p, d.rest, (d.front, refl))
    go (rebuild p ls) d = inr (p, d.rest, (d.front, refl))
    go (write_next p t i) d = inl refl

-- ---- A completion leaves queue and number, or ends the run
module _ (s : State) (f : Reached s) (c : Command) where
  abbrev t : State
  t = Completion.completed c s

  f' : Reached t
  f' = completed-kept s f c (completed-in s f.range c)

  ends : (q : ℕ) (rest : List ℕ) → s.queue ≡ q ∷ rest → Completion.job_done t q ≡ true → Ends s (Completion.end_job q t)
  unfolding Completion.end_job Completion.completed
  ends q rest e k =
      let some-jobs : s.begun ≡ 0 → ⊥ = busy-begun s f (done-why t f' q rest e k).1 in
      let same : joined t q ≡ s.begun = joined-begun t f'.running q (rw e (front-is q rest)) some-jobs in
      let own : s.begun ≤ queued s.queue q = subst (λ j. j ≤ queued s.queue q) (joined-begun s f.running q (rw e (front-is q rest)) some-jobs) (joined-queued s f q rest e) in
      record {
        part = q;
        rest = rest;
        front = e;
        some-jobs = omega arith;
        all-queued = own;
        queue = left same;
        fewer = ap (λ qs. length qs + s.begun) (left same) ∙ leave-queue-length q s.begun s.queue own;
        own = ap (λ qs. queued qs q + s.begun) (left same) ∙ leave-queue-less q s.begun s.queue own;
        others = ap (keep (λ p. not (eqb q p))) (left same) ∙ leave-queue-others q s.begun s.queue;
        counter = here same;
        counters = other;
        begun = refl;
        writes = all-sent same;
        no_more = subst (λ n. n ≤ written_apart s.shape (s.counter q) s.begun) (sym (all-sent same))
            (writes-together s.shape (levels-pos s.shape f.range.shape) (s.counter q) s.begun (f.range.counters q (front-in s f q rest e))
            (subst (Joins s.shape (s.counter q)) (joined-begun s f.running q (rw e (front-is q rest)) some-jobs) (front-joins s f.range q rest e)));
      }
    where
      all-sent : joined t q ≡ s.begun → s.sent ≡ slot_count (written_levels s.shape (s.counter q) s.begun)
      all-sent w = (done-why t f' q rest e k).0 ∙ unfold levels_of in (ap (λ j. slot_count (written_levels s.shape (s.counter q) j)) w)

      left : joined t q ≡ s.begun → (Completion.end_job q t).queue ≡ leave_queue q s.begun s.queue
      left w = ap (λ j. leave_queue q j s.queue) w

      here : joined t q ≡ s.begun → (Completion.end_job q t).counter q ≡ grown s.shape (s.counter q) s.begun
      here w = put_same q _ s.counter ∙ ap (grown s.shape (s.counter q)) w

      other : (p : ℕ) → ¬ (p ≡ q) → (Completion.end_job q t).counter p ≡ s.counter p
      other p n = put_other q _ s.counter p n

  abbrev Result : State → Type 0
  Result u = ((u.queue ≡ s.queue) × (u.begun ≡ s.begun)) ⊎ Ends s u

  complete-run : (bs : List ℕ) → Result (complete c bs s)
  unfolding complete Completion.complete_read Completion.complete_write
  complete-run bs = go (eqb c.kind read)
    where
      brings : (o : Option ℕ) → Result (Completion.gather_bytes o bs t)
      brings none = inl (unfold Completion.gather_bytes Completion.completed in (refl, refl))
      brings (some b) = inl (unfold Completion.gather_bytes Completion.completed in (refl, refl))

      finishes : (qs : List ℕ) → s.queue ≡ qs → Result (Completion.finish_job qs t)
      finishes [] e = inl (unfold Completion.finish_job Completion.completed in (refl, refl))
      finishes (q ∷ qs) e = unfold Completion.finish_job in (by (Completion.job_done t q) refl)
        where
          by : (b : Bool) → Completion.job_done t q ≡ b → Result (if b then Completion.end_job q t else t)
          by true k = inr (ends q qs e k)
          by false k = inl (unfold Completion.completed in (refl, refl))

      go : (b : Bool) → Result (if b then Completion.complete_read c bs s else Completion.complete_write c s)
      go true = unfold Completion.complete_read in (brings (holder s c.partition c.level c.slot))
      go false = unfold Completion.complete_write in (finishes s.queue refl)

-- ---- A call that is no open and no load: the number of jobs stays, and a completion leaves the queue; or a turn begins the run; or a completion ends it
data Moves (s t : State) (a : Ask) : Type 0 where
  stays : t.begun ≡ s.begun → ((c : Command) (bs : List ℕ) → a ≡ completion c bs → t.queue ≡ s.queue) → Moves s t a
  begins : a ≡ turn → (q : ℕ) (rest : List ℕ) → s.queue ≡ q ∷ rest → t.begun ≡ joined s q → Moves s t a
  finishes : (c : Command) (bs : List ℕ) → a ≡ completion c bs → Ends s t → Moves s t a

module _ (s : State) (l : Was s) where
  perform-moves : (a : Ask) (m : ℕ) (ws : List ℕ) (n : ℕ) → opens a ≡ false → Passed (questions s a m ws n) → (js : List ℕ) → Moves s (release (perform s a js)) a
  unfolding perform opens questions
  perform-moves (opening h) m ws n o p js = absurd (true≢false o)
  perform-moves (request k b bs) m ws n o p js = stays (unfold accept in refl) (λ c ds e. let z : ◌≡◌ {A = ℕ} 0 1 = cc in absurd (omega arith))
  perform-moves turn m ws n o p js = ⊎_elim (λ w. stays w (λ c ds e. let z : ◌≡◌ {A = ℕ} 0 1 = cc in absurd (omega arith))) (λ w. begins refl w.0 w.1 w.2.0 w.2.1) (turn-begun s js)
  perform-moves (completion c bs) m ws n o p js =
      let f = was-reached s m l (and_l (Questions.ready s m) (is_kind c.kind) p.0) in
      ⊎_elim (λ w. stays w.1 (λ d ds e. w.0)) (λ w. finishes c bs refl (later w)) (complete-run s f c bs)
    where
      later : {t : State} → Ends s t → Ends s (release t)
      later w = record {
        part = w.part;
        rest = w.rest;
        front = w.front;
        some-jobs = w.some-jobs;
        all-queued = w.all-queued;
        queue = w.queue;
        fewer = w.fewer;
        own = w.own;
        others = w.others;
        counter = w.counter;
        counters = w.counters;
        begun = w.begun;
        writes = w.writes;
        no_more = w.no_more;
      }
  perform-moves collect m ws n o p js = go s.request
    where
      go : (r : Option Request) → Moves s (release (collected r s)) collect
      go none = stays (unfold collected in refl) (λ c ds e. let z : ◌≡◌ {A = ℕ} 0 1 = cc in absurd (omega arith))
      go (some r) = stays (unfold collected finish in refl) (λ c ds e. let z : ◌≡◌ {A = ℕ} 0 1 = cc in absurd (omega arith))
  perform-moves save m ws n o p js = stays refl (λ c ds e. refl)
  perform-moves (load form) m ws n o p js = absurd (true≢false o)

  step-moves : (c : Call) → opens c.ask ≡ false → Moves s (step s c).0 c.ask
  step-moves c o = go (eqb (number s c) 0) refl
    where
      go : (t : Bool) → eqb (number s c) 0 ≡ t → Moves s (step s c).0 c.ask
      go true k =
          let z = eqb-true (number s c) 0 k in
          rw (accepted-leaves s c z) (perform-moves c.ask c.memory c.words c.buffer o (accepted-passed s c z) (Run.numbers_of (draws (bounds s c.ask) c.words)))
      go false k = rw (step-refused s c (eqb-false (number s c) 0 k)) (unfold Run.refused in (rw (refuse-keeps s c.ask o) (stays refl (λ d ds e. refl))))

module _ (left : State) (calls : CallsLeft left) where
  was : Was left
  was = reachable calls

  runs : Running left
  runs n = go was
    where
      go : Was left → (q : ℕ) × (rest : List ℕ) × ((left.queue ≡ q ∷ rest) × (left.begun ≤ joins left.shape (left.counter q) (queued left.queue q)))
      go (live f) = f.running n
      go (shut w) = absurd (n (rw w (unfold closed in refl)))

  -- "When a job begins, it takes with it the queued jobs for the same partition, .. so that they are j in all, at most 2^L − 1 − counter, or just itself when
  -- all levels are filled": a call after which a run has begun that had not before is a turn, and it is so many jobs of the front's partition
  pub run-begins : (k : Call) → opens k.ask ≡ false → left.begun ≡ 0 → ((step left k).0.begun ≡ 0 → ⊥)
      → (q : ℕ) × (rest : List ℕ) × ((left.queue ≡ q ∷ rest) × (k.ask ≡ turn) × ((step left k).0.begun ≡ joins left.shape (left.counter q) (queued left.queue q)))
  run-begins k o z n = go (step-moves left was k o)
    where
      go : Moves left (step left k).0 k.ask
          → (q : ℕ) × (rest : List ℕ) × ((left.queue ≡ q ∷ rest) × (k.ask ≡ turn) × ((step left k).0.begun ≡ joins left.shape (left.counter q) (queued left.queue q)))
      go (stays w v) = absurd (n (w ∙ z))
      go (begins a q rest e w) = (q, rest, (e, a, w ∙ (unfold joined begun_with in (ap (λ b. joins left.shape (left.counter q) (begun_with b (queued left.queue q))) z))))
      go (finishes c bs a w) = absurd (n w.begun)

  -- "They are j in all": from then on their number is fixed, whatever is called, until a completion ends the run
  pub run-fixed : (k : Call) → opens k.ask ≡ false → (left.begun ≡ 0 → ⊥)
      → ((step left k).0.begun ≡ left.begun) ⊎ ((c : Command) × (bs : List ℕ) × ((k.ask ≡ completion c bs) × Ends left (step left k).0))
  run-fixed k o n = go (step-moves left was k o)
    where
      go : Moves left (step left k).0 k.ask → ((step left k).0.begun ≡ left.begun) ⊎ ((c : Command) × (bs : List ℕ) × ((k.ask ≡ completion c bs) × Ends left (step left k).0))
      go (stays w v) = inl w
      go (begins a q rest e w) = inl (w ∙ joined-begun left runs q (rw e (front-is q rest)) n)
      go (finishes c bs a w) = inr (c, bs, (a, w))

  -- "At its end the counter grows by j (a full one falls as before) and all j leave the queue": a completion after which the queue is another one
  pub run_ends : (k : Call) (c : Command) (bs : List ℕ) → k.ask ≡ completion c bs → ¬ ((step left k).0.queue ≡ left.queue) → Ends left (step left k).0
  run_ends k c bs e n = go (step-moves left was k (ap opens e ∙ unfold opens in refl))
    where
      go : Moves left (step left k).0 k.ask → Ends left (step left k).0
      go (stays w v) = absurd (n (v c bs e))
      go (begins a q rest x w) = let y : turn ≡ completion c bs = sym a ∙ e in let z : ◌≡◌ {A = ℕ} 0 1 = cc in absurd (omega arith)
      go (finishes d ds a w) = w
