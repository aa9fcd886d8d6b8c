-- Document 02, P6: the reads that each call sends for a released request, and what the partition reader has left for it then.
use Rattle.std.proofs.Math.Path.{◌≡◌, refl, ap, sym, subst}
use Rattle.std.proofs.Common.{◌∙◌, inr, ⊎_elim}
use Rattle.std.specs.Prelude.{◌⊎◌, Bool, ◌&&◌, ◌||◌, ltb, if◌then◌else◌}
use Rattle.std.proofs.Math.Logic.{inl}
use Rattle.std.proofs.Math.Bool.{true, false, true≢false}
use mathlib.Core.List.{List, [], ◌∷◌, ◌++◌, map}
use Rattle.std.proofs.Math.Option
use Rattle.std.proofs.Math.Option.{Option, none, some, get_or}
use Prim.Native.Nat.{ℕ, suc, ◌-◌, ◌≤◌, ◌<◌}
use native.Mathlib.Omega.{arith}
use Rattle.std.proofs.Math.Decide.{ℕ_discrete}
use Rattle.std.proofs.Math.Dec.{eqb}
use Rattle.std.proofs.Math.ListN.{length}
use borrow.Author.Tests.{eqb-true, eqb-false}
use Rattle.lists.specs.Search
use Rattle.lists.specs.Search.{any, count, keep}
use Rattle.lists.specs.Tables.{put, put_same, put_other}
use Rattle.lists.specs.Tests.{and_l}
use Rattle.rules.specs.Blocks.{is_unread, holder}
use Rattle.rules.specs.Completion
use Rattle.rules.specs.Draws.{draws, Drew}
use Rattle.rules.specs.Laws.Answers.{opens}
use Rattle.rules.proofs.Laws.Answers.{Passed, accepted-passed, step-accepted, step-refused, refuse-keeps}
use Rattle.rules.proofs.Laws.Awaited.{release-free}
use Rattle.rules.specs.Laws.Decided.{StepIn}
use Rattle.rules.proofs.Laws.Decided.{decide-in, step_bounds-pos}
use Rattle.rules.proofs.Laws.Kept.{drew-of, completed-in}
use Rattle.rules.proofs.Laws.Layout.{cell-inj}
use Rattle.rules.specs.Jobs.{joined, top_of, levels_of, leave_queue, write_at}
use Rattle.rules.specs.Levels.{grown}
use Rattle.rules.specs.Questions
use Rattle.rules.specs.Questions.{Ask, opening, request, turn, completion, save, load, Call, questions, bounds, number}
use Rattle.rules.specs.Ranges.{is_kind}
use Rattle.rules.specs.Rebuild
use Rattle.rules.specs.Rebuild.{do_rebuild, fills, gathered}
use Rattle.rules.specs.Request
use Rattle.rules.specs.Request.{held, is_front, is_source, release, pass_level}
use Rattle.rules.specs.Reader.{condition, conditions, dummy, lowest, read_fake, read_real, read_level, read_levels, slot_read, costs, levels_left}
use Rattle.rules.specs.Run
use Rattle.rules.specs.Run.{act, step}
use Rattle.rules.specs.Shape.{cell, slots}
use Rattle.rules.specs.State.{State, Command, cmd, Request}
use Rattle.rules.specs.Turn
use Rattle.rules.specs.Turn.{Step, idle, no_dummy, read_for_request, read_for_job, rebuild, write_next, decide, command, do_step}
use Rattle.reachable.proofs.Begins.{starts, job-begins, request-begins}
use Rattle.reachable.proofs.Consequences.{block-lt, released-calm, done-why}
use Rattle.reachable.proofs.Decided.{Decided, RequestReads, decided}
use Rattle.reachable.proofs.Found.{request-decides}
use Rattle.reachable.specs.Invariant.{Reached}
use Rattle.reachable.proofs.Kept.Completion.{completed-kept}
use Rattle.reachable.proofs.Kept.Rebuild.Drawing.{drawing, place_out, partition-in}
use Rattle.reachable.proofs.Kept.Rebuild.Marks.{mark-else}
use Rattle.reachable.proofs.Live.{front-is, front-eq, not-front}
use Rattle.reachable.proofs.Never.{always-possible}
use Rattle.reachable.proofs.Pending.{leave-queue-mem}
use Rattle.reachable.proofs.ReadsLeft.{remaining, remaining-none, remaining-next, levels-same, levels-else, left-none}
use Rattle.reachable.proofs.Reached.{Was, was-reached, performed-kept}
use Rattle.reachable.specs.Terms.{first_of, own_reads, is_turn, reads_by, as_read}

-- From s to s' these reads are sent for the request r, which stays in hand: what the reader has left in s are they, and then what it has left in
-- s'. And if it has any left in s, a command told is one of them
pub record Goes (s s' : State) (r : Request) (reads : List (ℕ × ℕ)) (c : Command) : Type 0 where
  pub asked : Request
  pub in_hand : s'.request ≡ some asked
  pub unheld : held asked ≡ false
  pub block : asked.block ≡ r.block
  pub part : s'.partition r.block ≡ s.partition r.block
  pub place : s'.place r.block ≡ s.place r.block
  pub left : remaining s r ≡ reads ++ remaining s' asked
  pub told : (keep (λ (x : Command). ltb 0 x.kind) (c ∷ []) ≡ map (as_read (s.partition r.block)) reads) ⊎ (remaining s r ≡ [])

none_told : keep (λ (x : Command). ltb 0 x.kind) (cmd 0 0 0 0 ∷ []) ≡ []
unfolding keep
none_told = refl

release-goes : (s s' : State) (r : Request) (reads : List (ℕ × ℕ)) (c : Command) → Goes s s' r reads c → Goes s (release s') r reads c
unfolding remaining read_levels conditions condition read_level read_real read_fake is_source dummy lowest is_unread holder top_of joined
release-goes s s' r reads c g = record {
  asked = g.asked;
  in_hand = release-free s' g.asked g.in_hand g.unheld;
  unheld = g.unheld;
  block = g.block;
  part = g.part;
  place = g.place;
  left = g.left;
  told = g.told;
}

-- ---- A turn

-- A job's step reads nothing for a request
job-own : (s : State) (l : List ℕ) → own_reads (Turn.job_step s l) ≡ []
unfolding own_reads Turn.job_step Turn.rebuild_step Turn.write_step Turn.gather_step Turn.next_write
job-own s [] = refl
job-own s (q ∷ l) = go (eqb s.sent 0)
  where
    draws : (t : Bool) → own_reads (if t then idle else rebuild q (levels_of s q)) ≡ []
    draws true = refl
    draws false = refl

    gathers : (o : Option (ℕ × ℕ)) → own_reads (Turn.gather_step q o (Turn.rebuild_step s q)) ≡ []
    gathers none = draws (any (λ (c : Command). eqb c.partition q) s.outstanding || Request.released_for s.partition s.request q)
    gathers (some p) = refl

    writes : (o : Option (ℕ × ℕ)) → own_reads (Turn.next_write q o) ≡ []
    writes none = refl
    writes (some p) = refl

    go : (t : Bool) → own_reads (if t then Turn.gather_step q (Rebuild.unread s q) (Turn.rebuild_step s q) else Turn.write_step s q) ≡ []
    go true = gathers (Rebuild.unread s q)
    go false = writes (write_at (levels_of s q) s.sent)

module _ (s : State) (f : Reached s) (r : Request) (in_hand : s.request ≡ some r) (u : held r ≡ false) where
  -- without a level left, a turn is a job's
  behind-decides : levels_left s r ≡ [] → decide s ≡ Turn.job_step s s.queue
  unfolding decide Turn.request_step Turn.first_read
  behind-decides v =
      ap (λ o. get_or (Turn.request_step s o) (Turn.job_step s s.queue)) in_hand
      ∙ ap (λ t. get_or (if t then none else Turn.first_read q (slot_read s q (s.place r.block)) (levels_left s r)) (Turn.job_step s s.queue)) u
      ∙ ap (λ l. get_or (Turn.first_read q (slot_read s q (s.place r.block)) l) (Turn.job_step s s.queue)) v
    where
      q : ℕ
      q = s.partition r.block

  -- its next read is the first that the reader has left
  pub next-step : Turn.request_step s s.request ≡ first_of (s.partition r.block) (remaining s r)
  unfolding Turn.request_step first_of Turn.first_read Turn.read_step
  next-step = ap (Turn.request_step s) in_hand ∙ ap (λ t. if t then none else Turn.first_read q (slot_read s q (s.place r.block)) (levels_left s r)) u ∙ go (levels_left s r) refl
    where
      q : ℕ
      q = s.partition r.block

      reads : (ℓ : ℕ) (ℓs : List ℕ) → levels_left s r ≡ ℓ ∷ ℓs → (o : Option ℕ) → slot_read s q (s.place r.block) ℓ ≡ o
          → Turn.first_read q (slot_read s q (s.place r.block)) (ℓ ∷ ℓs) ≡ first_of q (remaining s r)
      reads ℓ ℓs v none k =
          let e : decide s ≡ no_dummy = request-decides s r in_hand u ℓ ℓs v ∙ ap (Turn.read_step q ℓ) k in
          absurd (true≢false (sym (always-possible s f) ∙ ap (Questions.possible s) e ∙ unfold Questions.possible in refl))
      reads ℓ ℓs v (some i) k = ap (λ o. some (Turn.read_step q ℓ o)) k ∙ ap (first_of q) (sym (remaining-next s r ℓ i ℓs v k))

      go : (ls : List ℕ) → levels_left s r ≡ ls → Turn.first_read q (slot_read s q (s.place r.block)) (levels_left s r) ≡ first_of q (remaining s r)
      go [] v = ap (Turn.first_read q (slot_read s q (s.place r.block))) v ∙ ap (first_of q) (sym (remaining-none s r v))
      go (ℓ ∷ ℓs) v = ap (Turn.first_read q (slot_read s q (s.place r.block))) v ∙ reads ℓ ℓs v (slot_read s q (s.place r.block) ℓ) refl

  -- its slots of the request's partition are no more unread after it
  behind-left : (x : Step) (js : List ℕ) → Decided s x → StepIn s x → Drew (Turn.step_bounds x) js → own_reads x ≡ [] → levels_left s r ≡ [] → levels_left (do_step x js s) r ≡ []
  unfolding do_step Turn.mark_read Turn.send do_rebuild Turn.step_bounds own_reads levels_left costs condition is_source is_unread top_of joined
  behind-left idle js d h w n v = v
  behind-left no_dummy js d h w n v = v
  behind-left (read_for_request q ℓ i) js d h w n v = absurd (omega (arith, ap length n))
  behind-left (read_for_job q ℓ i) js d h w n v = left-none s f r (joined s q) (job-begins s q ℓ i d) (put (cell s.shape q ℓ i) 0 s.mark) (λ m j hm hj e. fewer m j e (ℕ_discrete (cell s.shape (s.partition r.block) m j) (cell s.shape q ℓ i))) v
    where
      fewer : (m j : ℕ) → put (cell s.shape q ℓ i) 0 s.mark (cell s.shape (s.partition r.block) m j) ≡ 1
          → Dec (cell s.shape (s.partition r.block) m j ≡ cell s.shape q ℓ i) → s.mark (cell s.shape (s.partition r.block) m j) ≡ 1
      fewer m j e (yes z) = absurd (omega (arith, sym (put_same (cell s.shape q ℓ i) 0 s.mark) ∙ ap (put (cell s.shape q ℓ i) 0 s.mark) (sym z) ∙ e))
      fewer m j e (no z) = sym (put_other (cell s.shape q ℓ i) 0 s.mark (cell s.shape (s.partition r.block) m j) z) ∙ e
  behind-left (rebuild q ls) js d h w n v = left-none s f r (joined s q) (starts q d.rest d.front d.calm refl) (do_rebuild q ls (fills ls js (gathered s q)) s).mark
      (λ m j hm hj e. sym (mark-else s f q ls (fills ls js (gathered s q)) (drawing s f q ls js d w) (s.partition r.block) m j hm hj (λ z. d.apart r in_hand u (sym z.0))) ∙ e) v
  behind-left (write_next q t i) js d h w n v = v

  -- and it leaves the request, and where its block is, as they were
  behind-keeps : (x : Step) (js : List ℕ) → Decided s x → Drew (Turn.step_bounds x) js → own_reads x ≡ []
      → ((do_step x js s).request ≡ s.request) × ((do_step x js s).partition r.block ≡ s.partition r.block) × ((do_step x js s).place r.block ≡ s.place r.block)
  unfolding do_step Turn.mark_read Turn.send do_rebuild Turn.step_bounds own_reads
  behind-keeps idle js d w n = (refl, refl, refl)
  behind-keeps no_dummy js d w n = (refl, refl, refl)
  behind-keeps (read_for_request q ℓ i) js d w n = absurd (omega (arith, ap length n))
  behind-keeps (read_for_job q ℓ i) js d w n = (refl, refl, refl)
  behind-keeps (rebuild q ls) js d w n =
      let z = drawing s f q ls js d w in
      (refl, refl, place_out s f q ls (fills ls js (gathered s q)) z r.block (λ k. d.apart r in_hand u (partition-in s f q ls (fills ls js (gathered s q)) z r.block k)))
  behind-keeps (write_next q t i) js d w n = (refl, refl, refl)

  -- a request's read
  own-goes : (ℓ i : ℕ) (ℓs js : List ℕ) → levels_left s r ≡ ℓ ∷ ℓs → slot_read s (s.partition r.block) (s.place r.block) ℓ ≡ some i → RequestReads s (s.partition r.block) ℓ i → StepIn s (read_for_request (s.partition r.block) ℓ i)
      → Goes s (do_step (read_for_request (s.partition r.block) ℓ i) js s) r (own_reads (read_for_request (s.partition r.block) ℓ i)) (command (read_for_request (s.partition r.block) ℓ i))
  unfolding own_reads command do_step Turn.mark_read Turn.send remaining read_levels conditions condition read_level read_real read_fake is_source dummy lowest is_unread holder top_of joined
  own-goes ℓ i ℓs js v k d h = record {
    asked = passed;
    in_hand = ap (pass_level ℓ (suc (length s.outstanding))) in_hand ∙ unfold pass_level in refl;
    unheld = unfold held in u;
    block = refl;
    part = refl;
    place = refl;
    left = remaining-next s r ℓ i ℓs v k ∙ ap (λ x. (ℓ, i) ∷ x) (sym above);
    told = inl (unfold keep in refl);
  }
    where
      passed : Request
      passed = record { kind = r.kind; block = r.block; bytes = r.bytes; next = r.next; evict = r.evict; level = suc ℓ; found = r.found; awaits = suc (length s.outstanding) }

      other : (m j : ℕ) → suc ℓ ≤ m → m < s.shape.L → j < slots m
          → put (cell s.shape (s.partition r.block) ℓ i) 0 s.mark (cell s.shape (s.partition r.block) m j) ≡ s.mark (cell s.shape (s.partition r.block) m j)
      other m j l hm hj = put_other (cell s.shape (s.partition r.block) ℓ i) 0 s.mark (cell s.shape (s.partition r.block) m j)
          (λ e. omega (arith, l, (cell-inj s.shape (s.partition r.block) (s.partition r.block) m ℓ j i hm h.1 hj h.2 e).1))

      above : read_levels (do_step (read_for_request (s.partition r.block) ℓ i) js s) r.block (count (suc ℓ) (s.shape.L - suc ℓ)) ≡ read_levels s r.block (count (suc ℓ) (s.shape.L - suc ℓ))
      above = levels-same s f r.block (block-lt s f r in_hand) _ (request-begins s f (s.partition r.block) ℓ i d) (put (cell s.shape (s.partition r.block) ℓ i) 0 s.mark) (suc ℓ) other (s.shape.L - suc ℓ) (omega (arith, h.1))

  -- a turn
  turn-goes : (js : List ℕ) → Drew (Turn.step_bounds (decide s)) js → Reached (do_step (decide s) js s) → Goes s (do_step (decide s) js s) r (own_reads (decide s)) (command (decide s))
  turn-goes js w f' = go (levels_left s r) refl
    where
      q : ℕ
      q = s.partition r.block

      reads : (ℓ : ℕ) (ℓs : List ℕ) → levels_left s r ≡ ℓ ∷ ℓs → (o : Option ℕ) → slot_read s q (s.place r.block) ℓ ≡ o → Goes s (do_step (decide s) js s) r (own_reads (decide s)) (command (decide s))
      reads ℓ ℓs v none k =
          let e : decide s ≡ no_dummy = request-decides s r in_hand u ℓ ℓs v ∙ ap (Turn.read_step q ℓ) k ∙ unfold Turn.read_step in refl in
          absurd (true≢false (sym (always-possible s f) ∙ ap (Questions.possible s) e ∙ unfold Questions.possible in refl))
      reads ℓ ℓs v (some i) k =
          let e : decide s ≡ read_for_request q ℓ i = request-decides s r in_hand u ℓ ℓs v ∙ ap (Turn.read_step q ℓ) k ∙ unfold Turn.read_step in refl in
          subst (λ x. Goes s (do_step x js s) r (own_reads x) (command x)) (sym e) (own-goes ℓ i ℓs js v k (subst (Decided s) e (decided s)) (subst (StepIn s) e (decide-in s f.range)))

      go : (ls : List ℕ) → levels_left s r ≡ ls → Goes s (do_step (decide s) js s) r (own_reads (decide s)) (command (decide s))
      go [] v =
          let n : own_reads (decide s) ≡ [] = ap own_reads (behind-decides v) ∙ job-own s s.queue in
          let a = behind-keeps (decide s) js (decided s) w n in
          let e : (do_step (decide s) js s).request ≡ some r = a.0 ∙ in_hand in
          let after : remaining (do_step (decide s) js s) r ≡ [] = remaining-none (do_step (decide s) js s) r (behind-left (decide s) js (decided s) (decide-in s f.range) w n v) in
          let before : remaining s r ≡ [] = remaining-none s r v in
          record {
            asked = r;
            in_hand = e;
            unheld = u;
            block = refl;
            part = a.1;
            place = a.2;
            left = before ∙ sym (ap (λ xs. xs ++ remaining (do_step (decide s) js s) r) n ∙ after);
            told = inr before;
          }
      go (ℓ ∷ ℓs) v = reads ℓ ℓs v (slot_read s q (s.place r.block) ℓ) refl

  -- ---- A completion

  -- the front job is done: it is another partition's
  end_goes : (p : ℕ) (qs : List ℕ) → s.queue ≡ p ∷ qs → (s.sent ≡ 0 → ⊥) → (ℓs : List ℕ) → read_levels (Completion.end_job p s) r.block ℓs ≡ read_levels s r.block ℓs
  unfolding Completion.end_job read_levels conditions condition read_level read_real read_fake is_source dummy lowest is_unread holder top_of joined
  end_goes p qs e busy ℓs = levels-else s r.block (put p (grown s.shape (s.counter p) (joined s p)) s.counter) (leave_queue p (joined s p) s.queue)
      (put_other p (grown s.shape (s.counter p) (joined s p)) s.counter (s.partition r.block) away) now later ℓs
    where
      away : s.partition r.block ≡ p → ⊥
      away z = busy (released-calm s f r in_hand u (rw (e, z) (front-is p qs)))

      now : is_front s.queue (s.partition r.block) ≡ false
      now = go (is_front s.queue (s.partition r.block)) refl
        where
          go : (t : Bool) → is_front s.queue (s.partition r.block) ≡ t → is_front s.queue (s.partition r.block) ≡ false
          go true k = absurd (away (front-eq (s.partition r.block) p s.queue qs e k))
          go false k = k

      later : is_front (leave_queue p (joined s p) s.queue) (s.partition r.block) ≡ false
      later = ⊎_elim (λ n. not-front (leave_queue p (joined s p) s.queue) (s.partition r.block) (λ m. n (leave-queue-mem (s.partition r.block) p (joined s p) s.queue m))) (λ a. absurd (true≢false (sym a.0 ∙ now))) (f.released r in_hand u)

module _ (s : State) (f : Reached s) (r : Request) (in_hand : s.request ≡ some r) (u : held r ≡ false) (c : Command) where
  abbrev done : State
  done = Completion.completed c s

  abbrev waits : Request
  waits = Completion.awaits_less c s.outstanding r

  done-hand : done.request ≡ some waits
  unfolding Completion.completed
  done-hand = ap (Option.map (Completion.awaits_less c s.outstanding)) in_hand

  done_held : held waits ≡ false
  unfolding held
  done_held = u

  -- a state that differs from s in what the reader does not ask for
  unseen-goes : (s' : State) → s'.request ≡ some waits → s'.partition r.block ≡ s.partition r.block → s'.place r.block ≡ s.place r.block → remaining s' waits ≡ remaining s r → Goes s s' r [] (cmd 0 0 0 0)
  unseen-goes s' e p x k = record { asked = waits; in_hand = e; unheld = done_held; block = refl; part = p; place = x; left = sym k; told = inl none_told }

  bytes-goes : (o : Option ℕ) (bs : List ℕ) → Goes s (Completion.gather_bytes o bs done) r [] (cmd 0 0 0 0)
  unfolding Completion.gather_bytes Completion.completed remaining read_levels conditions condition read_level read_real read_fake is_source dummy lowest is_unread holder top_of joined
  bytes-goes none bs = unseen-goes (Completion.completed c s) done-hand refl refl refl
  bytes-goes (some b) bs = unseen-goes (Completion.gather_bytes (some b) bs (Completion.completed c s)) done-hand refl refl refl

  finish-goes : (l : List ℕ) → s.queue ≡ l → Goes s (Completion.finish_job l done) r [] (cmd 0 0 0 0)
  unfolding Completion.finish_job Completion.completed remaining read_levels conditions condition read_level read_real read_fake is_source dummy lowest is_unread holder top_of joined
  finish-goes [] e = unseen-goes (Completion.completed c s) done-hand refl refl refl
  finish-goes (p ∷ qs) e = go (Completion.job_done (Completion.completed c s) p) refl
    where
      go : (t : Bool) → Completion.job_done (Completion.completed c s) p ≡ t → Goes s (if t then Completion.end_job p (Completion.completed c s) else Completion.completed c s) r [] (cmd 0 0 0 0)
      go true k = unseen-goes (Completion.end_job p (Completion.completed c s)) (unfold Completion.end_job in done-hand) (unfold Completion.end_job in refl) (unfold Completion.end_job in refl) ended
        where
          f' : Reached (Completion.completed c s)
          f' = completed-kept s f c (completed-in s f.range c)

          ended : remaining (Completion.end_job p (Completion.completed c s)) waits ≡ remaining s r
          ended = unfold Completion.end_job in (end_goes (Completion.completed c s) f' waits done-hand done_held p qs e (done-why (Completion.completed c s) f' p qs e k).1 (count r.level (s.shape.L - r.level)))
      go false k = unseen-goes (Completion.completed c s) done-hand refl refl refl

  complete-goes : (bs : List ℕ) → Goes s (Completion.complete c bs s) r [] (cmd 0 0 0 0)
  unfolding Completion.complete Completion.complete_read Completion.complete_write
  complete-goes bs = go (eqb c.kind 1)
    where
      go : (t : Bool) → Goes s (if t then Completion.complete_read c bs s else Completion.complete_write c s) r [] (cmd 0 0 0 0)
      go true = bytes-goes (holder s c.partition c.level c.slot) bs
      go false = finish-goes s.queue refl

-- ---- Any call but an open and a collect that is accepted
module _ (s : State) (l : Was s) (r : Request) (in_hand : s.request ≡ some r) (u : held r ≡ false) where
  -- a call that does nothing
  stays-goes : Goes s s r [] (cmd 0 0 0 0)
  stays-goes = record { asked = r; in_hand = in_hand; unheld = u; block = refl; part = refl; place = refl; left = refl; told = inl none_told }

  is_none-some : (o : Option Request) → o ≡ some r → Search.is_none o ≡ true → ⊥
  unfolding Search.is_none
  is_none-some none e k = let z : ◌≡◌ {A = ℕ} 0 1 = cc in omega arith
  is_none-some (some x) e k = true≢false (sym k)

  act-goes : (a : Ask) (m : ℕ) (ws : List ℕ) (n : ℕ) → opens a ≡ false → ¬ (a ≡ Questions.collect) → Passed (questions s a m ws n)
      → Goes s (act s a (Run.numbers_of (draws (bounds s a) ws))) r (if is_turn a && true then own_reads (decide s) else []) (Run.sent_command s a)
  unfolding act Run.perform Run.sent_command questions bounds opens is_turn
  act-goes (opening h) m ws n o k p = absurd (true≢false o)
  act-goes (request j b bs) m ws n o k p = absurd (is_none-some s.request in_hand p.1.0)
  act-goes turn m ws n o k p =
      let f = was-reached s m l p.0 in
      let js : List ℕ = Run.numbers_of (draws (Turn.step_bounds (decide s)) ws) in
      release-goes s _ r _ _ (turn-goes s f r in_hand u js (drew-of (Turn.step_bounds (decide s)) ws (step_bounds-pos (decide s)) p.1.1.1.1.0) (performed-kept s turn m ws n l p tt))
  act-goes (completion c bs) m ws n o k p =
      let f = was-reached s m l (and_l (Questions.ready s m) (is_kind c.kind) p.0) in
      release-goes s _ r _ _ (complete-goes s f r in_hand u c bs)
  act-goes Questions.collect m ws n o k p = absurd (k refl)
  act-goes save m ws n o k p = release-goes s s r [] (cmd 0 0 0 0) stays-goes
  act-goes (load form) m ws n o k p = absurd (true≢false o)

  pub step-goes : (c : Call) → opens c.ask ≡ false → (c.ask ≡ Questions.collect → number s c ≡ 0 → ⊥) → Goes s (step s c).0 r (reads_by s c) (step s c).1.command
  unfolding reads_by
  step-goes c o k = go (eqb (number s c) 0) refl
    where
      go : (t : Bool) → eqb (number s c) 0 ≡ t → Goes s (step s c).0 r (if is_turn c.ask && eqb (number s c) 0 then own_reads (decide s) else []) (step s c).1.command
      go true e =
          let z = eqb-true (number s c) 0 e in
          rw (e, step-accepted s c z) (unfold Run.accepted in (act-goes c.ask c.memory c.words c.buffer o (λ w. k w z) (accepted-passed s c z)))
      go false e = rw (e, step-refused s c (eqb-false (number s c) 0 e), refuse-keeps s c.ask o) (unfold Run.refused in (none_reads (is_turn c.ask)))
        where
          none_reads : (t : Bool) → Goes s s r (if t && false then own_reads (decide s) else []) (cmd 0 0 0 0)
          none_reads true = stays-goes
          none_reads false = stays-goes
