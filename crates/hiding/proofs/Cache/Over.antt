-- A state over a cache of e places and over one of n: each step, each bound and each act is the same, and each question but 8.
use Rattle.std.specs.Prelude.{◌≡◌, Bool, ◌||◌, ℕ, ◌≤◌, length, eqb, ltb, if◌then◌else◌}
use Rattle.std.proofs.Math.Path.{refl, ap}
use Rattle.std.proofs.Common.{sym, ◌∙◌, true≢false, arith}
use Rattle.std.proofs.Math.Bool.{true, false}
use mathlib.Core.List.{List, [], ◌∷◌}
use Rattle.std.proofs.Math.Option.{Option, none, some, map}
use borrow.Author.Tests.{le-leb, ltb-true, lt-ltb}
use Rattle.lists.specs.Tests
use Rattle.rules.specs.Ranges
use Rattle.rules.specs.Laws.Waiting.{Waits}
use Rattle.rules.proofs.Laws.Waiting.{waits-fits, waits-more}
use Rattle.rules.specs.Questions
use Rattle.rules.specs.Questions.{Ask, opening, request, turn, completion, collect, bounds, questions, first_no, save, load}
use Rattle.rules.specs.Completion
use Rattle.rules.specs.Unfold.{model}
use Rattle.rules.specs.Collect
use Rattle.rules.specs.Run
use Rattle.rules.specs.Run.{act}
use Rattle.rules.specs.Levels.{joins, is_full}
use Rattle.rules.specs.Memory
use Rattle.rules.specs.Setters.{set_shape, set_request}
use Rattle.rules.specs.State.{State, Request, Command}
use Rattle.rules.specs.Turn
use Rattle.rules.specs.Turn.{Step, idle, no_dummy, read_for_request, read_for_job, rebuild, write_next, decide, do_step}
use Rattle.rules.specs.Laws.Answers.{opens}
use Rattle.rules.specs.Blocks
use Rattle.rules.specs.Request
use Rattle.rules.specs.Shape
use Rattle.rules.specs.Shape.{Shape, cell}
use Rattle.hiding.specs.Claim.{with_cache}
use Rattle.hiding.proofs.Lists.Bytes.{NoForm}

-- the same state over a cache of e places
abbrev pub with_e : ℕ → State → State
with_e e s = set_shape (with_cache e s.shape) s

module _ (e : ℕ) (s : State) where
  -- an open brings its own shape
  abbrev pub keep_e : Ask → State → State
  keep_e (opening h) x = x
  keep_e (request k b bs) x = with_e e x
  keep_e turn x = with_e e x
  keep_e (completion c bs) x = with_e e x
  keep_e collect x = with_e e x
  keep_e save x = with_e e x
  keep_e (load form) x = x

  request_step-E : (r : Option Request) → Turn.request_step (with_e e s) r ≡ Turn.request_step s r
  unfolding model
  request_step-E none = refl
  request_step-E (some r) = refl

  job_step-E : (l : List ℕ) → Turn.job_step (with_e e s) l ≡ Turn.job_step s l
  unfolding model
  job_step-E [] = refl
  job_step-E (q ∷ l) = refl

  pub decide-E : decide (with_e e s) ≡ decide s
  unfolding decide
  decide-E = rw (request_step-E, job_step-E)

  pub bounds-E : (a : Ask) → bounds (with_e e s) a ≡ bounds s a
  unfolding bounds
  bounds-E (opening h) = refl
  bounds-E (request k b bs) = refl
  bounds-E turn = rw decide-E
  bounds-E (completion c bs) = refl
  bounds-E collect = refl
  bounds-E save = refl
  bounds-E (load form) = refl

  do_step-E : (x : Step) (js : List ℕ) → do_step x js (with_e e s) ≡ with_e e (do_step x js s)
  unfolding model
  do_step-E idle js = refl
  do_step-E no_dummy js = refl
  do_step-E (read_for_request q ℓ i) js = refl
  do_step-E (read_for_job q ℓ i) js = refl
  do_step-E (rebuild q ls) js = refl
  do_step-E (write_next q t i) js = refl

  gather_bytes-E : (o : Option ℕ) (bs : List ℕ) → Completion.gather_bytes o bs (with_e e s) ≡ with_e e (Completion.gather_bytes o bs s)
  unfolding model
  gather_bytes-E none bs = refl
  gather_bytes-E (some b) bs = refl

  finish_job-E : (l : List ℕ) → Completion.finish_job l (with_e e s) ≡ with_e e (Completion.finish_job l s)
  unfolding model
  finish_job-E [] = refl
  finish_job-E (q ∷ l) = go (Completion.job_done s q)
    where
      go : (t : Bool) → (if t then Completion.end_job q (with_e e s) else with_e e s) ≡ with_e e (if t then Completion.end_job q s else s)
      go true = refl
      go false = refl

  collected-E : (r : Option Request) → Collect.collected r (with_e e s) ≡ with_e e (Collect.collected r s)
  unfolding model
  collected-E none = refl
  collected-E (some r) = refl

module _ (e : ℕ) (s : State) where
  complete-E : (c : Command) (bs : List ℕ) → Completion.complete c bs (with_e e s) ≡ with_e e (Completion.complete c bs s)
  unfolding model
  complete-E c bs = go (eqb c.kind 1)
    where
      go : (t : Bool) → (if t then Completion.complete_read c bs (with_e e s) else Completion.complete_write c (with_e e s)) ≡ with_e e (if t then Completion.complete_read c bs s else Completion.complete_write c s)
      go true = gather_bytes-E e (Completion.completed c s) (Blocks.holder s c.partition c.level c.slot) bs
      go false = finish_job-E e (Completion.completed c s) s.queue

  perform-E : (a : Ask) (js : List ℕ) → Run.perform (with_e e s) a js ≡ keep_e e s a (Run.perform s a js)
  unfolding Run.perform
  perform-E (opening h) js = refl
  perform-E (request k b bs) js = unfold Request.accept in refl
  perform-E turn js = rw (decide-E e s) (do_step-E e s (decide s) js)
  perform-E (completion c bs) js = complete-E c bs
  perform-E collect js = collected-E e s s.request
  perform-E save js = refl
  perform-E (load form) js = refl

  release-E : (x : State) → Request.release (with_e e x) ≡ with_e e (Request.release x)
  unfolding model
  release-E x = go x.request
    where
      go : (o : Option Request) → set_request (map (Request.released_in (with_e e x)) o) (with_e e x) ≡ with_e e (set_request (map (Request.released_in x) o) x)
      go none = refl
      go (some r) = refl

  pub act-E : (a : Ask) (js : List ℕ) → act (with_e e s) a js ≡ keep_e e s a (act s a js)
  unfolding act
  act-E (opening h) js = ap Request.release (perform-E (opening h) js)
  act-E (request k b bs) js = ap Request.release (perform-E (request k b bs) js) ∙ release-E (Run.perform s (request k b bs) js)
  act-E turn js = ap Request.release (perform-E turn js) ∙ release-E (Run.perform s turn js)
  act-E (completion c bs) js = ap Request.release (perform-E (completion c bs) js) ∙ release-E (Run.perform s (completion c bs) js)
  act-E collect js = ap Request.release (perform-E collect js) ∙ release-E (Run.perform s collect js)
  act-E save js = ap Request.release (perform-E save js) ∙ release-E (Run.perform s save js)
  act-E (load form) js = ap Request.release (perform-E (load form) js)

  pub handed_found-E : (a : Ask) → Run.handed_found (with_e e s) a ≡ Run.handed_found s a
  unfolding Run.handed_found
  handed_found-E (opening h) = refl
  handed_found-E (request k b bs) = refl
  handed_found-E turn = refl
  handed_found-E (completion c bs) = refl
  handed_found-E collect = refl
  handed_found-E save = refl
  handed_found-E (load form) = refl

  pub sent_command-E : (a : Ask) → Run.sent_command (with_e e s) a ≡ Run.sent_command s a
  unfolding Run.sent_command
  sent_command-E (opening h) = refl
  sent_command-E (request k b bs) = refl
  sent_command-E turn = rw decide-E
  sent_command-E (completion c bs) = refl
  sent_command-E collect = refl
  sent_command-E save = refl
  sent_command-E (load form) = refl

  slot_bytes-E : (o : Option ℕ) → Blocks.slot_bytes (with_e e s) o ≡ Blocks.slot_bytes s o
  unfolding model
  slot_bytes-E none = refl
  slot_bytes-E (some b) = refl

  written-E : (c : Command) → Run.written (with_e e s) c ≡ Run.written s c
  unfolding Run.written Blocks.holder cell
  written-E c = rw slot_bytes-E

  answer-E : (r : Option Request) → Collect.answer (with_e e s) r ≡ Collect.answer s r
  unfolding model
  answer-E none = refl
  answer-E (some r) = refl

  possible-E : (x : Step) → Questions.possible (with_e e s) x ≡ Questions.possible s x
  unfolding model
  possible-E idle = refl
  possible-E no_dummy = refl
  possible-E (read_for_request q ℓ i) = refl
  possible-E (read_for_job q ℓ i) = refl
  possible-E (rebuild q ls) = refl
  possible-E (write_next q t i) = refl

  finished-E : (r : Option Request) → Questions.in_hand (Collect.finished (with_e e s)) r ≡ Questions.in_hand (Collect.finished s) r
  unfolding model
  finished-E none = refl
  finished-E (some r) = refl

pub handed-E : (e : ℕ) (s t : State) (a : Ask) → NoForm a → Run.handed (with_e e s) a (with_e e t) ≡ Run.handed s a t
unfolding Run.handed
handed-E e s t (opening h) v = refl
handed-E e s t (request k b bs) v = refl
handed-E e s t turn v = rw (decide-E e s, written-E e t)
handed-E e s t (completion c bs) v = refl
handed-E e s t collect v = answer-E e s s.request
handed-E e s t save v = absurd v
handed-E e s t (load form) v = absurd v

range_request-E : (e n : ℕ) (h : Shape) (r : Option Request) → Ranges.range_request (with_cache e h) r ≡ Ranges.range_request (with_cache n h) r
unfolding model
range_request-E e n h none = refl
range_request-E e n h (some r) = refl

-- Two caches, of e and of n places
module _ (e n : ℕ) (s : State) (le : e ≤ n) (he : 1 ≤ e) (hn : n ≤ s.shape.N) (w : Waits e s.waiting s.request) where
  in_range-E : Ranges.in_range (with_e e s) ≡ Ranges.in_range (with_e n s)
  unfolding Ranges.in_range Ranges.ranges Ranges.each_cell Shape.within Tests.between Ranges.range_command Shape.cell joins is_full
  in_range-E = rw (
    waits-fits e s.waiting s.request w,
    waits-fits n s.waiting s.request (waits-more e n s.waiting s.request le w),
    range_request-E e n s.shape,
    le-leb 1 e he,
    le-leb e s.shape.N (omega arith),
    le-leb 1 n (omega arith),
    le-leb n s.shape.N hn,
  )

  ready-E : (m : ℕ) → Questions.ready (with_e e s) m ≡ Questions.ready (with_e n s) m
  unfolding Questions.ready Memory.needed
  ready-E m = rw in_range-E

-- Two lists of questions of which only the answer to 8 differs: a yes of the first is a yes of the second
pub data Looser : List (Bool × ℕ) → List (Bool × ℕ) → Type 0 where
  end : Looser [] []
  same : {x : Bool × ℕ} {xs ys : List (Bool × ℕ)} → Looser xs ys → Looser (x ∷ xs) (x ∷ ys)
  eight : {a b : Bool} {xs ys : List (Bool × ℕ)} → (a ≡ true → b ≡ true) → Looser xs ys → Looser ((a, 8) ∷ xs) ((b, 8) ∷ ys)

pub first_no-looser : {xs ys : List (Bool × ℕ)} → Looser xs ys → (first_no xs ≡ 8 → ⊥) → first_no ys ≡ first_no xs
unfolding first_no
first_no-looser end h = refl
first_no-looser (same {x = (true, k)} l) h = first_no-looser l h
first_no-looser (same {x = (false, k)} l) h = refl
first_no-looser (eight {a = true} {b = b} i l) h = rw (i refl) (first_no-looser l h)
first_no-looser (eight {a = false} i l) h = absurd (h refl)

or_mono : (a b c : Bool) → (a ≡ true → c ≡ true) → (a || b) ≡ true → (c || b) ≡ true
or_mono true b c i h = rw (i refl)
or_mono false true true i h = refl
or_mono false true false i h = refl
or_mono false false c i h = absurd (true≢false (sym h))

module _ (e n : ℕ) (s : State) (le : e ≤ n) (he : 1 ≤ e) (hn : n ≤ s.shape.N) (w : Waits e s.waiting s.request) where
  room : ltb (length s.waiting) e ≡ true → ltb (length s.waiting) n ≡ true
  room h = lt-ltb (length s.waiting) n (omega (arith, ltb-true))

  pub questions-E : (a : Ask) (m : ℕ) (ws : List ℕ) (k : ℕ) → opens a ≡ false → NoForm a → Looser (questions (with_e e s) a m ws k) (questions (with_e n s) a m ws k)
  unfolding questions opens bounds Ranges.bytes_of
  questions-E (opening x) m ws k o v = absurd (true≢false o)
  questions-E (request j b bs) m ws k o v = rw (ready-E e n s le he hn w m) (same (same (same (same (same (eight (or_mono _ _ _ room) (same end)))))))
  questions-E turn m ws k o v = rw (decide-E e s, decide-E n s, ready-E e n s le he hn w m, possible-E e s, possible-E n s) (same (same (same (same (same (same end))))))
  questions-E (completion c bs) m ws k o v = rw (ready-E e n s le he hn w m) (same (same (same end)))
  questions-E collect m ws k o v = rw (ready-E e n s le he hn w m, finished-E e s, finished-E n s) (same (same (same (same end))))
  questions-E save m ws k o v = absurd v
  questions-E (load form) m ws k o v = absurd v
