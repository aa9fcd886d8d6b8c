-- Every accepted call leaves each number of the state in its range.
use Rattle.std.specs.Prelude.{◌≡◌, Bool, ◌&&◌, length, get_or, replicate, eqb, leb, if◌then◌else◌}
use Rattle.std.proofs.Math.Path.{refl, ap}
use Rattle.std.proofs.Common.{sym, ◌∙◌, true≢false}
use Rattle.std.proofs.Math.Bool.{true, false, not}
use mathlib.Core.List.{List, [], ◌∷◌, ◌++◌}
use Rattle.std.proofs.Math.Option.{Option, none, some, map}
use Prim.Native.Nat.{ℕ, suc, ◌+◌, ◌-◌, ◌^◌, ◌≤◌, ◌<◌}
use native.Mathlib.Omega.{arith}
use Rattle.std.proofs.Math.ListN.{length-append}
use Rattle.std.proofs.Math.Pow.{pow_pos}
use borrow.Author.Tests.{eqb-true, eqb-false, leb-true, ltb-true}
use Rattle.lists.specs.Search
use Rattle.lists.specs.Search.{without}
use Rattle.lists.specs.Lengths.{without-length, first_left-le}
use Rattle.lists.specs.Tests
use Rattle.lists.specs.Tests.{and_l, and_r, every-yes}
use Rattle.lists.specs.All.{All, nil, cons, IfSome, all_append, all_keep, all_without, all_get_d, all_replicate}
use Rattle.lists.specs.Tables.{put, put_has}
use Rattle.rules.specs.Memory
use Rattle.rules.specs.Blocks
use Rattle.rules.specs.Laws.Range.{PlaceIn, FoundIn, CommandIn, RequestIn, JobsIn, InRange}
use Rattle.rules.proofs.Laws.Range.{range-facts}
use Rattle.rules.specs.Jobs.{joined, leave_queue}
use Rattle.rules.specs.Request
use Rattle.rules.proofs.Laws.Orders.{drew-each}
use Rattle.rules.proofs.Laws.Levels.{grown-lt, partitions-pos, levels-pos}
use Rattle.rules.proofs.Laws.Layout.{offset-in}
use Rattle.rules.specs.Shape.{Shape, cell, within}
use Rattle.rules.specs.Laws.Decided.{Front, StepIn}
use Rattle.rules.proofs.Laws.Decided.{step_bounds-pos, decide-in}
use Rattle.rules.specs.Rebuild
use Rattle.rules.specs.Rebuild.{places, fills}
use Rattle.rules.proofs.Laws.RangeSetters.{in_bytes, in_counter, in_mark, in_queue, in_begun, in_cursor, in_sent, in_outstanding, in_request}
use Rattle.rules.specs.Open
use Rattle.rules.specs.State.{State, closed, Command, Place, nowhere, stored, Request}
use Rattle.rules.specs.Run
use Rattle.rules.specs.Run.{act, step, after}
use Rattle.rules.specs.Collect
use Rattle.rules.proofs.Laws.Answers.{Passed, settled-taken, accepted-passed, step-accepted, step-refused}
use Rattle.rules.specs.Laws.Waiting.{Waits}
use Rattle.rules.proofs.Laws.Waiting.{pass-waits, others-room, waits-le}
use Rattle.rules.specs.Questions
use Rattle.rules.specs.Questions.{Ask, opening, request, turn, completion, collect, save, load, Call, bounds, questions, number}
use Rattle.rules.specs.Turn
use Rattle.rules.specs.Turn.{Step, idle, no_dummy, read_for_request, read_for_job, rebuild, write_next, decide, do_step}
use Rattle.rules.specs.Completion
use Rattle.rules.specs.Form.Sums.{out_of_blocks}
use Rattle.rules.specs.Form.Reading.{Form, get_form}
use Rattle.rules.specs.Form.Loading.{checks, sound, is_sound, loads, state_in, loaded_form}
use Rattle.rules.specs.Ranges.{in_range, others, is_kind}
use Rattle.rules.specs.Draws.{draws, Drew}
use Rattle.rules.proofs.Laws.Draws.{settles-drew}
use Rattle.rules.proofs.Laws.Rebuilt.{gathered-in, fills-in, front_fits, front-joins, rebuild-in, leave-queue-le, all-leave-queue}

-- Commands sent
pub kind-read : is_kind 1 ≡ true
unfolding is_kind Tests.between
kind-read = refl

pub kind-write : is_kind 2 ≡ true
unfolding is_kind Tests.between
kind-write = refl

pub send-in : (s : State) → InRange s → (c : Command) → CommandIn s.shape c → length s.outstanding < s.shape.W → InRange (Turn.send c s)
unfolding Turn.send
send-in s f c k h = in_outstanding s f (s.outstanding ++ (c ∷ [])) (all_append f.outstanding (cons k nil)) (rw length-append (omega arith))

pub mark-in : (s : State) → InRange s → (q ℓ i : ℕ) → InRange (Turn.mark_read q ℓ i s)
unfolding Turn.mark_read
mark-in s f q ℓ i = in_mark s f (put (cell s.shape q ℓ i) 0 s.mark) (λ p m j hp hm hj. put_has (λ v. v ≤ 1) (cell s.shape q ℓ i) 0 s.mark (cell s.shape p m j) (omega arith) (f.marks p m j hp hm hj))

pub pass-in : (h : Shape) (ℓ n : ℕ) (r : Option Request) → ℓ < h.L → n ≤ h.W → IfSome (RequestIn h) r → IfSome (RequestIn h) (Request.pass_level ℓ n r)
unfolding Request.pass_level
pass-in h ℓ n none k w f = tt
pass-in h ℓ n (some r) k w f = record { kind = f.kind; block = f.block; bytes = f.bytes; next = f.next; evict = f.evict; level = k; found = f.found; awaits = w }

pub pass-jobs : (qs : List ℕ) (ℓ n : ℕ) (r : Option Request) → JobsIn qs r → JobsIn qs (Request.pass_level ℓ n r)
unfolding Request.pass_level
pass-jobs qs ℓ n none h = h
pass-jobs qs ℓ n (some r) h = h

pub emptied-in : (at : ℕ → ℕ → ℕ) (n : ℕ) (x : Place) (f : ℕ → ℕ) (c : ℕ) → f c ≤ n → Collect.emptied at x f c ≤ n
unfolding Collect.emptied
emptied-in at n nowhere f c k = k
emptied-in at n (stored ℓ i) f c k = put_has (λ v. v ≤ n) (at ℓ i) 0 f c (omega arith) k

jobs-fewer : (qs xs : List ℕ) (r : Option Request) → length xs ≤ length qs → JobsIn qs r → JobsIn xs r
jobs-fewer qs xs none l h = omega arith
jobs-fewer qs xs (some r) l h = omega arith

module _ (s : State) (f : InRange s) where
  -- the front of a queue
  front_of : (q : ℕ) (qs : List ℕ) → s.queue ≡ qs → Request.is_front qs q ≡ true → Front s q
  unfolding Request.is_front
  front_of q [] e k = absurd (true≢false (sym k))
  front_of q (p ∷ qs) e k = (qs, e ∙ ap (λ x. x ∷ qs) (eqb-true p q k))

  begun-in : (q ℓ : ℕ) (t : Bool) → Request.is_source s q ℓ ≡ t → (if t then joined s q else s.begun) ≤ 64
  unfolding Request.is_source
  begun-in q ℓ true e = front_fits s f q (front_of q s.queue refl (and_l (Request.is_front s.queue q) _ e))
  begun-in q ℓ false e = f.begun

  pub do_step-in : (x : Step) (js : List ℕ) → StepIn s x → length s.outstanding < s.shape.W → InRange (do_step x js s)
  unfolding do_step Turn.mark_read Rebuild.do_rebuild
  do_step-in idle js h w = f
  do_step-in no_dummy js h w = f
  do_step-in (read_for_request q ℓ i) js h w = send-in _ (in_begun _ (in_request _ (mark-in s f q ℓ i) _
      (pass-in s.shape ℓ (suc (length s.outstanding)) s.request h.1 w f.request) (pass-jobs s.queue ℓ (suc (length s.outstanding)) s.request f.jobs)
      (pass-waits s.shape.E ℓ (suc (length s.outstanding)) s.waiting s.request f.cache)) _ (begun-in q ℓ (Request.is_source s q ℓ) refl))
      _ (record { kind = kind-read; partition = h.0; level = h.1; slot = h.2 }) w
  do_step-in (read_for_job q ℓ i) js h w = send-in _ (in_begun _ (in_cursor _ (mark-in s f q ℓ i) _ (offset-in s.shape.L ℓ i h.1 h.2)) _ (front_fits s f q h.3))
      _ (record { kind = kind-read; partition = h.0; level = h.1; slot = h.2 }) w
  do_step-in (rebuild q ls) js h w = send-in _ (rebuild-in s f q h.2 ls (fills ls js (Rebuild.gathered s q)) (fills-in s.shape ls js (Rebuild.gathered s q) h.1 (gathered-in s q)))
      _ (record { kind = kind-write; partition = h.0; level = all_get_d 0 h.1 (levels-pos s.shape f.shape); slot = pow_pos (get_or ls 0 0 + 1) }) w
  do_step-in (write_next q t i) js h w = send-in _ (in_sent s f (suc s.sent) h.3) _ (record { kind = kind-write; partition = h.0; level = h.1; slot = h.2 }) w

  pub finish_job-in : (l : List ℕ) → s.queue ≡ l → All (λ q. q < s.shape.P) l → InRange (Completion.finish_job l s)
  unfolding Completion.finish_job Completion.end_job
  finish_job-in [] e a = f
  finish_job-in (q ∷ l) e (cons a t) = go (Completion.job_done s q)
    where
      j : ℕ
      j = joined s q

      go : (u : Bool) → InRange (if u then Completion.end_job q s else s)
      go true = in_sent _ (in_cursor _ (in_queue _ (in_counter _ (in_begun s f 0 (omega arith)) _ (λ p hp. put_has (λ c. c < 2 ^ s.shape.L) q _ s.counter p
          (grown-lt s.shape (s.counter q) j (levels-pos s.shape f.shape) (f.counters q a) (front-joins s f q l e).1) (f.counters p hp)))
          _ (all-leave-queue q j f.queue) (jobs-fewer s.queue (leave_queue q j s.queue) s.request (leave-queue-le q j s.queue) f.jobs)) 0 (omega arith)) 0 (omega arith)
      go false = f

  pub gather_bytes-in : (o : Option ℕ) (bs : List ℕ) → InRange (Completion.gather_bytes o bs s)
  unfolding Completion.gather_bytes
  gather_bytes-in none bs = f
  gather_bytes-in (some b) bs = in_bytes s f _

  pub completed-in : (c : Command) → InRange (Completion.completed c s)
  unfolding Completion.completed
  completed-in c = in_outstanding _ (in_request s f _ (less-in s.request f.request) (less-jobs s.queue s.request f.jobs) (less-waits s.shape.E s.waiting s.request f.cache))
      (Search.without (Completion.is_command c) s.outstanding) (all_without _ f.outstanding) (omega (arith, without-length (Completion.is_command c) s.outstanding, f.free))
    where
      less-in : (o : Option Request) → IfSome (RequestIn s.shape) o → IfSome (RequestIn s.shape) (map (Completion.awaits_less c s.outstanding) o)
      less-in none k = tt
      less-in (some r) k = (record { kind = k.kind; block = k.block; bytes = k.bytes; next = k.next; evict = k.evict; level = k.level; found = k.found; awaits = omega (arith, k.awaits, first_left-le (Completion.is_command c) r.awaits s.outstanding) })

      less-jobs : (qs : List ℕ) (o : Option Request) → JobsIn qs o → JobsIn qs (map (Completion.awaits_less c s.outstanding) o)
      less-jobs qs none h = h
      less-jobs qs (some r) h = h

      less-waits : (e : ℕ) (xs : List ℕ) (o : Option Request) → Waits e xs o → Waits e xs (map (Completion.awaits_less c s.outstanding) o)
      less-waits e xs none h = h
      less-waits e xs (some r) h = h

  pub collected-in : (r : Option Request) → IfSome (RequestIn s.shape) r → JobsIn s.queue r → Waits s.shape.E s.waiting r → InRange (Collect.collected r s)
  unfolding Collect.collected Collect.finish others
  collected-in none a b c = f
  collected-in (some r) a b c = record {
    shape = f.shape;
    partitions = λ k hk. put_has (λ p. p < s.shape.P) r.block r.next s.partition k a.next (f.partitions k hk);
    places = λ k hk. put_has (PlaceIn s.shape.L) r.block nowhere s.place k tt (f.places k hk);
    counters = f.counters;
    orders = f.orders;
    marks = f.marks;
    holds = λ q ℓ i hq hℓ hi. emptied-in (cell s.shape (s.partition r.block)) s.shape.N (s.place r.block) s.holds (cell s.shape q ℓ i) (f.holds q ℓ i hq hℓ hi);
    waiting = all_append (all_keep _ f.waiting) (cons a.block nil);
    queue = all_append f.queue (cons (f.partitions r.block a.block) (cons a.evict nil));
    outstanding = f.outstanding;
    begun = f.begun;
    cursor = f.cursor;
    sent = f.sent;
    free = f.free;
    request = tt;
    jobs = rw length-append (omega arith);
    cache = rw length-append (omega (arith, c.1));
  }

-- A request released is for the same block
module _ (s : State) where
  pub released-jobs : (qs : List ℕ) (o : Option Request) → JobsIn qs o → JobsIn qs (map (Request.released_in s) o)
  released-jobs qs none h = h
  released-jobs qs (some r) h = h

  pub released-waits : (e : ℕ) (xs : List ℕ) (o : Option Request) → Waits e xs o → Waits e xs (map (Request.released_in s) o)
  unfolding Request.released_in
  released-waits e xs none h = h
  released-waits e xs (some r) h = go (Request.held r && not (Request.blocked s r))
    where
      go : (t : Bool) → Waits e xs (some (if t then Request.with_found (Blocks.look_up s r.block) (length s.outstanding) r else r))
      go true = h
      go false = h

-- A request released: where its block was found is in range, and nothing else is another
module _ (s : State) (f : InRange s) where
  found_in : (b : ℕ) → b < s.shape.N → FoundIn s.shape.L (some (Blocks.look_up s b))
  unfolding Blocks.look_up Blocks.found_at
  found_in b hb = go (s.place b) (f.places b hb) (Search.member b s.waiting)
    where
      go : (x : Place) → PlaceIn s.shape.L x → (t : Bool) → FoundIn s.shape.L (some (Blocks.found_at x t))
      go nowhere h true = tt
      go nowhere h false = tt
      go (stored ℓ i) h t = h.0

  released-in : (o : Option Request) → IfSome (RequestIn s.shape) o → IfSome (RequestIn s.shape) (map (Request.released_in s) o)
  unfolding Request.released_in
  released-in none k = tt
  released-in (some r) k = go (Request.held r && not (Request.blocked s r))
    where
      go : (t : Bool) → RequestIn s.shape (if t then Request.with_found (Blocks.look_up s r.block) (length s.outstanding) r else r)
      go true = record { kind = k.kind; block = k.block; bytes = k.bytes; next = k.next; evict = k.evict; level = k.level; found = found_in r.block k.block; awaits = f.free }
      go false = k

  pub release-in : InRange (Request.release s)
  release-in = in_request s f _ (released-in s.request f.request) (released-jobs s s.queue s.request f.jobs) (released-waits s s.shape.E s.waiting s.request f.cache)

-- A fresh state
pub fresh_in_lem : (h : Shape) (js : List ℕ) → within h ≡ true → Drew (replicate h.N h.P) js → InRange (Open.fresh h js)
unfolding Open.fresh
fresh_in_lem h js w d = record {
  shape = w;
  partitions = λ b hb. drew-each h.N h.P js d b hb;
  places = λ b hb. tt;
  counters = λ q hq. pow_pos h.L;
  orders = λ q ℓ i hq hℓ hi. pow_pos (ℓ + 1);
  marks = λ q ℓ i hq hℓ hi. omega arith;
  holds = λ q ℓ i hq hℓ hi. omega arith;
  waiting = nil;
  queue = nil;
  outstanding = nil;
  begun = omega arith;
  cursor = omega arith;
  sent = omega arith;
  free = omega arith;
  request = tt;
  jobs = omega arith;
  cache = omega arith;
}

-- A form that loads brings a state in range, whoever made it
pub loaded-in : (form : List ℕ) → loads form ≡ true → InRange (loaded_form form)
unfolding loads loaded_form state_in is_sound sound checks
loaded-in form e = go (get_form (out_of_blocks form)) e
  where
    go : (o : Option (Form × List ℕ)) → is_sound o ≡ true → InRange (state_in o)
    go none e = absurd (true≢false (sym e))
    go (some x) e = range-facts _ (every-yes (checks x) e).1.0

module _ (s : State) (f : InRange s) where
  pub complete-in : (c : Command) (bs : List ℕ) → InRange (Completion.complete c bs s)
  unfolding Completion.complete Completion.complete_read Completion.complete_write Completion.completed
  complete-in c bs = go (eqb c.kind 1)
    where
      go : (t : Bool) → InRange (if t then Completion.complete_read c bs s else Completion.complete_write c s)
      go true = gather_bytes-in (Completion.completed c s) (completed-in s f c) (Blocks.holder s c.partition c.level c.slot) bs
      go false = finish_job-in (Completion.completed c s) (completed-in s f c) s.queue refl f.queue

  pub perform-in : (a : Ask) (m : ℕ) (ws : List ℕ) (k : ℕ) (js : List ℕ) → Passed (questions s a m ws k) → Drew (bounds s a) js → InRange (Run.perform s a js)
  unfolding Run.perform questions bounds Request.accept
  perform-in (opening h) m ws k js p d = fresh_in_lem h js p.0 d
  perform-in (request j b bs) m ws k [] p d = elim d [ ]
  perform-in (request j b bs) m ws k (x ∷ []) p d = elim d.1 [ ]
  perform-in (request j b bs) m ws k (x ∷ y ∷ z ∷ js) p d = elim d.1.1 [ ]
  perform-in (request j b bs) m ws k (x ∷ y ∷ []) p (a, (c, _)) = in_request s f _
      (record { kind = and_r (Questions.ready s m) (is_kind j) p.0; block = ltb-true b s.shape.N p.1.1.0; bytes = eqb-true _ _ p.1.1.1.0; next = a; evict = c; level = omega arith; found = tt; awaits = omega arith })
      (leb-true (length s.queue) 62 p.1.1.1.1.0)
      (let h = waits-le s.shape.E s.waiting s.request f.cache in (h, others-room s.shape.E b s.waiting h p.1.1.1.1.1.0))
  perform-in turn m ws k js p d = do_step-in s f (decide s) js (decide-in s f) (ltb-true (length s.outstanding) s.shape.W p.1.0)
  perform-in (completion c bs) m ws k js p d = complete-in c bs
  perform-in collect m ws k js p d = collected-in s f s.request f.request f.jobs f.cache
  perform-in save m ws k js p d = f
  perform-in (load form) m ws k js p d = loaded-in form p.1.0

  -- Every accepted call leaves a state in range
  pub act-in : (a : Ask) (m : ℕ) (ws : List ℕ) (k : ℕ) (js : List ℕ) → Passed (questions s a m ws k) → Drew (bounds s a) js → InRange (act s a js)
  unfolding act
  act-in a m ws k js p d = release-in (Run.perform s a js) (perform-in a m ws k js p d)

-- The words lent give such numbers
pub drew-of : (ms ws : List ℕ) → All (λ m. 0 < m) ms → not (Search.is_none (draws ms ws)) ≡ true → Drew ms (Run.numbers_of (draws ms ws))
drew-of ms ws h e = settles-drew h (settled-taken ms ws e)

-- an accepted call that is no open was given a state in range
pub given-in : (s : State) (m : ℕ) → Questions.ready s m ≡ true → InRange s
unfolding Questions.ready
given-in s m e = range-facts s (and_r (leb (Memory.needed s.shape) m) (in_range s) e)

-- Whatever state a call was given, if it is accepted it leaves a state in range
pub accepted-in : (s : State) (a : Ask) (m : ℕ) (ws : List ℕ) (k : ℕ) → Passed (questions s a m ws k) → InRange (act s a (Run.numbers_of (draws (bounds s a) ws)))
unfolding questions bounds
accepted-in s (opening h) m ws k p = unfold act Run.perform in (release-in _ (fresh_in_lem h _ p.0 (drew-of _ ws (all_replicate (λ m. 0 < m) h.N h.P (partitions-pos h p.0)) p.1.1.0)))
accepted-in s (request j b bs) m ws k p =
    let f = given-in s m (and_l (Questions.ready s m) (is_kind j) p.0) in
    let h = partitions-pos s.shape f.shape in
    act-in s f (request j b bs) m ws k _ p (drew-of _ ws (cons h (cons h nil)) p.1.1.1.1.1.1.0)
accepted-in s turn m ws k p = act-in s (given-in s m p.0) turn m ws k _ p (drew-of _ ws (step_bounds-pos (decide s)) p.1.1.1.1.0)
accepted-in s (completion c bs) m ws k p = act-in s (given-in s m (and_l (Questions.ready s m) (is_kind c.kind) p.0)) (completion c bs) m ws k _ p (unfold draws Run.numbers_of in tt)
accepted-in s collect m ws k p = act-in s (given-in s m p.0) collect m ws k _ p (unfold draws Run.numbers_of in tt)
accepted-in s save m ws k p = unfold act Run.perform in (release-in _ (given-in s m (and_l (Questions.ready s m) _ p.0)))
accepted-in s (load form) m ws k p = unfold act Run.perform in (release-in _ (loaded-in form p.1.0))

-- A state that calls left is closed or in range
pub data Left (s : State) : Type 0 where
  shut : s ≡ closed → Left s
  live : InRange s → Left s

pub refuse-left : (s : State) (a : Ask) → Left s → Left (Run.refuse s a)
unfolding Run.refuse
refuse-left s (opening h) l = shut refl
refuse-left s (request k b bs) l = l
refuse-left s turn l = l
refuse-left s (completion c bs) l = l
refuse-left s collect l = l
refuse-left s save l = l
refuse-left s (load form) l = shut refl

pub step_left : (s : State) (c : Call) → Left s → Left (step s c).0
step_left s c l = go (eqb (number s c) 0) refl
  where
    go : (t : Bool) → eqb (number s c) 0 ≡ t → Left (step s c).0
    go true e = let z = eqb-true (number s c) 0 e in
        rw (step-accepted s c z) (live (unfold Run.accepted in (accepted-in s c.ask c.memory c.words c.buffer (accepted-passed s c z))))
    go false e = rw (step-refused s c (eqb-false (number s c) 0 e)) (refuse-left s c.ask l)

-- Document 01: each number of a state that calls left is in its range, if it was so or the state was closed before them
pub after-left : (cs : List Call) (s : State) → Left s → Left (after s cs)
unfolding after
after-left [] s l = l
after-left (c ∷ cs) s l = after-left cs (step s c).0 (step_left s c l)
