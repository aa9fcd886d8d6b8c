-- What holds of every state that calls left, for whoever needs it: stated over the rules, with nothing of the invariant. Which states these are
-- is said in Terms (`CallsLeft`): after an open, whatever state was before it, also if it is refused, and then through any calls, refused ones
-- among them, further opens, and loads of saved forms. `after_open` has it for the state after a list of calls.
use Rattle.std.specs.Prelude.{◌≡◌, ◌⊎◌, Bool, true, false, not, ◌&&◌, List, [], ◌∷◌, ◌++◌, ℕ, suc, ◌+◌, ◌≤◌, ◌<◌, length}
use Rattle.std.proofs.Math.Path.{refl, ap}
use Rattle.std.proofs.Common.{sym, ◌∙◌, ⊎_elim, arith, leb-false}
use Rattle.std.proofs.Math.Logic.{inl, inr}
use Rattle.std.proofs.Math.Bool.{true≢false}
use Rattle.std.proofs.Math.Option.{Option, none, some}
use Rattle.lists.specs.All.{All, nil, cons}
use Rattle.lists.specs.Distinct.{Mem}
use Rattle.lists.specs.Members.{mem-not}
use Rattle.lists.specs.Search.{find, any, member}
use Rattle.lists.specs.Tests.{and-true, and-false}
use Rattle.lists.specs.Totals.{total}
use Rattle.rules.specs.Resumes.{Resumes, NoOpen}
use Rattle.rules.specs.Blocks.{is_unread}
use Rattle.rules.specs.Completion.{is_command}
use Rattle.rules.specs.Figures.{nowhere_blocks, stored_blocks, waiting_blocks, jobs_for}
use Rattle.rules.specs.Laws.Answers.{opens}
use Rattle.rules.proofs.Laws.Figures.{places-add, ColumnsAdd, columns-add, front-counts}
use Rattle.rules.specs.Levels.{filled}
use Rattle.rules.specs.Jobs.{top_of, capacity}
use Rattle.rules.specs.Memory.{needed}
use Rattle.rules.specs.Questions
use Rattle.rules.specs.Questions.{Ask, opening, request, turn, completion, collect, save, load, Call, possible, questions, first_no, number}
use Rattle.rules.specs.Rebuild.{places, unread, gathered, chosen}
use Rattle.rules.specs.Request.{held, undrawn_only, is_source}
use Rattle.rules.specs.Reader.{levels_left, slot_read}
use Rattle.rules.specs.Laws.Reader.{slot_in, if_unread}
use Rattle.rules.specs.Run.{Outcome, step, run, after}
use Rattle.rules.specs.Shape.{Shape, slots}
use Rattle.rules.specs.State.{State, Command, cmd, read, write, Request, closed, nowhere}
use Rattle.rules.specs.Turn
use Rattle.rules.specs.Turn.{idle, Step, no_dummy, read_for_request, read_for_job, rebuild, decide, command}
use Rattle.rules.specs.Unfold.{model}
use Rattle.reachable.proofs.Counts.{waiting-all, begun-front}
use Rattle.reachable.proofs.Decided.{Rebuilds, decided, JobReads}
use Rattle.reachable.proofs.Found.{request-decides, scan-all, lower-read, lowest-dummy, lowest-item, decided-filled, sent-turn}
use Rattle.reachable.proofs.Leaves.{gathered-chosen, collected-nowhere, Unwritten, after-stays}
use Rattle.reachable.proofs.Live.{alone-only}
use Rattle.reachable.proofs.Never.{always-possible, never-many, late-two, never-full, full-ready}
use Rattle.reachable.proofs.Reached.{Was, reachable, step-was, live, shut, ready-memory, was-reached}
use Rattle.reachable.proofs.LastSaved.{nothing}
use Rattle.reachable.proofs.Sends.{write-within, reads-after-writes, behind, read_is}
use Rattle.reachable.proofs.Settled.{Settled, closed-hand, left-settled}
use Rattle.reachable.proofs.Slots.{front-in}
use Rattle.reachable.proofs.Worn.{blocked-why}
use Rattle.reachable.specs.Terms.{Apart, none_apart, Numbered, LowestUnread, EachAfterWrite, CallsLeft, opened, called, loaded, OfSaved}

-- a closed state sends nothing
closed-idle : decide closed ≡ idle
unfolding model
closed-idle = refl

closed-decides : (s : State) → s ≡ closed → (x : Step) → decide s ≡ x → Questions.sends x ≡ true → ⊥
closed-decides s w x e y =
    let z : Questions.sends idle ≡ false = unfold Questions.sends in refl in
    true≢false (sym y ∙ ap Questions.sends (sym e ∙ ap decide w ∙ closed-idle) ∙ z)

closed-reads : (s : State) → s ≡ closed → (q ℓ i : ℕ) → command (decide s) ≡ cmd read q ℓ i → ⊥
unfolding command
closed-reads s w q ℓ i e = omega (arith, ap (λ (c : Command). c.kind) (sym (ap command (ap decide w ∙ closed-idle)) ∙ e))

no-queue : (q : ℕ) (rest : List ℕ) → [] ≡ q ∷ rest → ⊥
no-queue q rest e = let z : ◌≡◌ {A = ℕ} 0 1 = cc in omega arith

-- The state after an open and a list of calls, whose loads are of saved forms
call-left : (s : State) (c : Call) → OfSaved c.ask → CallsLeft s → CallsLeft (step s c).0
call-left s c w l = go c.ask refl w
  where
    go : (a : Ask) → c.ask ≡ a → OfSaved a → CallsLeft (step s c).0
    go (opening h) e w = opened s c h e refl
    go (request k b bs) e w = called c l (ap opens e ∙ (unfold opens in refl)) refl
    go turn e w = called c l (ap opens e ∙ (unfold opens in refl)) refl
    go (completion d bs) e w = called c l (ap opens e ∙ (unfold opens in refl)) refl
    go collect e w = called c l (ap opens e ∙ (unfold opens in refl)) refl
    go save e w = called c l (ap opens e ∙ (unfold opens in refl)) refl
    go (load form) e w = loaded s c w.1 w.2.0 w.2.1 (e ∙ ap load w.2.2) refl

calls-left : (cs : List Call) → All (λ (c : Call). OfSaved c.ask) cs → (s : State) → CallsLeft s → CallsLeft (after s cs)
unfolding after
calls-left [] nil s l = l
calls-left (c ∷ cs) (cons w t) s l = calls-left cs t (step s c).0 (call-left s c w l)

pub after_open : (s : State) (c : Call) (h : Shape) → c.ask ≡ opening h → (cs : List Call) → All (λ (c : Call). OfSaved c.ask) cs → CallsLeft (after s (c ∷ cs))
unfolding after
after_open s c h e cs t = calls-left cs t (step s c).0 (opened s c h e refl)

module _ (left : State) (calls : CallsLeft left) where
  was : Was left
  was = reachable calls

  settled : Settled left
  settled = left-settled calls

  -- ---- "States that calls left never do either"

  -- A turn never lacks an unread dummy
  pub never-lacks-dummy : ¬ (decide left ≡ no_dummy)
  never-lacks-dummy e = go was
    where
      go : Was left → ⊥
      go (live f) = true≢false (sym (always-possible left f) ∙ ap (possible left) e ∙ unfold possible in refl)
      go (shut w) = closed-decides left w no_dummy e (unfold Questions.sends in refl)

  -- ---- "The request is held while a job for p is queued or running." P4: "If the only job for p is at the front of the queue and hasn't drawn its order,
  -- the request is no longer held." P7: a run counts as one, once it has begun. Exactly then: a request that may be released is released by the call that
  -- makes it so, and that another level has been read 2^ℓ times never holds one here
  held-why : (r : Request) → left.request ≡ some r → held r ≡ true → (member (left.partition r.block) left.queue ≡ true) × (undrawn_only left (left.partition r.block) ≡ false)
  held-why r e u = go was
    where
      go : Was left → (member (left.partition r.block) left.queue ≡ true) × (undrawn_only left (left.partition r.block) ≡ false)
      go (live f) = blocked-why left f r e u (settled r e u)
      go (shut w) = absurd (closed-hand left w r e)

  released-why : (r : Request) → left.request ≡ some r → held r ≡ false
      → (member (left.partition r.block) left.queue ≡ false) ⊎ (undrawn_only left (left.partition r.block) ≡ true)
  released-why r e u = go was
    where
      go : Was left → (member (left.partition r.block) left.queue ≡ false) ⊎ (undrawn_only left (left.partition r.block) ≡ true)
      go (live f) = ⊎_elim (λ n. inl (mem-not (left.partition r.block) left.queue n)) (λ a. inr (alone-only left (left.partition r.block) a)) (f.released r e u)
      go (shut w) = absurd (closed-hand left w r e)

  pub held-while : (r : Request) → left.request ≡ some r → held r ≡ (member (left.partition r.block) left.queue && not (undrawn_only left (left.partition r.block)))
  held-while r e = go (held r) refl
    where
      q : ℕ
      q = left.partition r.block

      go : (t : Bool) → held r ≡ t → held r ≡ (member q left.queue && not (undrawn_only left q))
      go true u = let w = held-why r e u in u ∙ sym (and-true w.0 (ap not w.1))
      go false u = u ∙ sym (⊎_elim (λ w. ap (λ t. t && not (undrawn_only left q)) w) (λ w. and-false (member q left.queue) (ap not w)) (released-why r e u))

  -- P4: "and the wanted block leaves the job": the next orders that are drawn after a collect, the first write since it, gather its block only if that is
  -- one of those chosen from the cache, as any block that waits. Calls in between may save, and load what was just saved
  pub wanted-leaves : (k : Call) → k.ask ≡ collect → number left k ≡ 0 → (r : Request) → left.request ≡ some r
      → (ds : List Call) → Resumes [] ds (run (step left k).0 ds) → Unwritten (run (step left k).0 ds) → (q : ℕ) (ls : List ℕ) → decide (after (step left k).0 ds) ≡ rebuild q ls
      → Mem r.block (gathered (after (step left k).0 ds) q) → Mem r.block (chosen (after (step left k).0 ds) q)
  wanted-leaves k a z r e ds v n q ls d m = go stays.1
    where
      s' : State
      s' = after (step left k).0 ds

      stays : (s'.place r.block ≡ nowhere) × Was s'
      stays = after-stays ds (step left k).0 r.block [] (collected-nowhere left k a z r e) n v (nothing refl) (step-was left k (rw a tt) was)

      go : Was s' → Mem r.block (chosen s' q)
      go (live f) = let x : Rebuilds s' q ls = rw d at (decided s') in gathered-chosen s' f q r.block (front-in s' f q x.rest x.front) x.calm stays.0 m
      go (shut w) = absurd (closed-decides s' w (rebuild q ls) d (unfold Questions.sends in refl))

  -- ---- "Then it sends one read to each filled level of p": while a request that isn't held has a level left that costs a read, a turn reads the
  -- first of these levels; no turn is idle then
  pub read-due : (r : Request) → left.request ≡ some r → held r ≡ false → (ℓ : ℕ) (ls : List ℕ) → levels_left left r ≡ ℓ ∷ ls
      → (i : ℕ) × (decide left ≡ read_for_request (left.partition r.block) ℓ i)
  read-due r e u ℓ ls v = go (slot_read left q (left.place r.block) ℓ) refl
    where
      q : ℕ
      q = left.partition r.block

      decides : decide left ≡ Turn.read_step q ℓ (slot_read left q (left.place r.block) ℓ)
      decides = request-decides left r e u ℓ ls v

      go : (o : Option ℕ) → slot_read left q (left.place r.block) ℓ ≡ o → (i : ℕ) × (decide left ≡ read_for_request q ℓ i)
      go none k = absurd (never-lacks-dummy (decides ∙ ap (Turn.read_step q ℓ) k ∙ unfold Turn.read_step in refl))
      go (some i) k = (i, decides ∙ ap (Turn.read_step q ℓ) k ∙ unfold Turn.read_step in refl)

  -- A turn never gathers more blocks than the written levels hold
  pub never-gathers-more : (q : ℕ) (ls : List ℕ) → decide left ≡ rebuild q ls → length (gathered left q) ≤ capacity ls
  never-gathers-more q ls e = go was
    where
      go : Was left → length (gathered left q) ≤ capacity ls
      go (live f) = let d : Rebuilds left q ls = rw e at (decided left) in rw d.goal (never-many left f q (front-in left f q d.rest d.front) d.calm d.rest d.front)
      go (shut w) = absurd (closed-decides left w (rebuild q ls) e (unfold Questions.sends in refl))

  -- ..so a turn's 2 says that the open or the load was refused, or that the memory is too short
  pub never-late : (k : Call) → k.ask ≡ turn → number left k ≡ 2 → (left ≡ closed) ⊎ (k.memory < needed left.shape)
  unfolding number
  never-late k e n = go was
    where
      go : Was left → (left ≡ closed) ⊎ (k.memory < needed left.shape)
      go (shut w) = inl w
      go (live f) =
          let z : first_no (questions left turn k.memory k.words k.buffer) ≡ 2 = rw e at n in
          inr (leb-false (needed left.shape) k.memory (sym (ready-memory left k.memory f) ∙ late-two left f k.memory k.words k.buffer z))

  -- ---- "Among well-formed requests only 8 may depend on names": with E equal to N no request is answered 8
  pub never-eight : left.shape.E ≡ left.shape.N → (k : Call) (j b : ℕ) (bs : List ℕ) → k.ask ≡ request j b bs → ¬ (number left k ≡ 8)
  unfolding number
  never-eight n k j b bs e z =
      let z' : first_no (questions left (request j b bs) k.memory k.words k.buffer) ≡ 8 = rw e at z in
      never-full left (was-reached left k.memory was (full-ready left j b bs k.memory k.words k.buffer z')) n j b bs k.memory k.words k.buffer z'

  -- ---- "Per block: its place: nowhere, waiting in the cache, or in a level": all blocks are counted, once
  pub three-counts : length (nowhere_blocks left) + length (stored_blocks left) + length (waiting_blocks left) ≡ left.shape.N
  three-counts = places-add left

  -- those that wait are the list of the waiting blocks, each once
  pub waiting-count : length (waiting_blocks left) ≡ length left.waiting
  waiting-count = go was
    where
      go : Was left → length (waiting_blocks left) ≡ length left.waiting
      go (live f) = waiting-all left f
      go (shut w) = rw w (unfold waiting_blocks model in refl)

  -- ---- Document 02, P1: the columns of the page add up
  pub page-columns : ColumnsAdd left
  page-columns = go was
    where
      go : Was left → ColumnsAdd left
      go (live f) = columns-add left f.range
      go (shut w) = rw w (unfold total model in record { stored = refl; waiting = refl; jobs = refl })

  -- "A begun job counts as queued": it is the front of the queue, and counts for its partition
  pub begun-counts : (left.begun ≡ 0 → ⊥) → (q : ℕ) × ((rest : List ℕ) × ((left.queue ≡ q ∷ rest) × (1 ≤ jobs_for left q)))
  begun-counts n = go was
    where
      go : Was left → (q : ℕ) × ((rest : List ℕ) × ((left.queue ≡ q ∷ rest) × (1 ≤ jobs_for left q)))
      go (live f) = let w = begun-front left f n in (w.0, (w.1.0, (w.1.1, front-counts left w.0 w.1.0 w.1.1)))
      go (shut w) = absurd (n (rw w (unfold closed in refl)))

  -- .. and while none has begun, the front job has gone over no slot and sent no write
  pub begun_first : left.begun ≡ 0 → (left.cursor ≡ 0) × (left.sent ≡ 0)
  begun_first z = go was
    where
      go : Was left → (left.cursor ≡ 0) × (left.sent ≡ 0)
      go (live f) = f.unbegun z
      go (shut w) = rw w (unfold closed in (refl, refl))

  -- ---- "A slot never has two commands outstanding"
  pub one-command : Apart left.outstanding
  one-command = go was
    where
      go : Was left → Apart left.outstanding
      go (live f) = f.apart
      go (shut w) = rw w (unfold closed in none_apart)

  -- ---- "It reads every unread slot of the sources, levels ascending, and slots ascending within a level": the front job's next read is of
  -- the first unread slot of its sources, wherever its cursor is. P7: "Filled levels up to t are the sources"
  pub first-unread : (q : ℕ) (rest : List ℕ) → left.queue ≡ q ∷ rest → left.sent ≡ 0
      → unread left q ≡ find (λ p. filled (left.counter q) p.0 && is_unread left q p.0 p.1) (places (suc (top_of left q)))
  first-unread q rest e z = go was
    where
      go : Was left → unread left q ≡ find (λ p. filled (left.counter q) p.0 && is_unread left q p.0 p.1) (places (suc (top_of left q)))
      go (live f) = scan-all left f q rest e z
      go (shut w) = let z : left.queue ≡ [] = unfold closed in (ap (λ (x : State). x.queue) w) in absurd (no-queue q rest (sym z ∙ e))

  pub job-reads-first : (q ℓ i : ℕ) → decide left ≡ read_for_job q ℓ i
      → (is_unread left q ℓ i ≡ true) × ((m j : ℕ) → j < slots m → (m < ℓ) ⊎ ((m ≡ ℓ) × (j < i)) → is_unread left q m j ≡ false)
  job-reads-first q ℓ i e = go was
    where
      go : Was left → (is_unread left q ℓ i ≡ true) × ((m j : ℕ) → j < slots m → (m < ℓ) ⊎ ((m ≡ ℓ) × (j < i)) → is_unread left q m j ≡ false)
      go (live f) = let d : JobReads left q ℓ i = rw e at (decided left) in (d.unread, lower-read left f q ℓ i d)
      go (shut w) = absurd (closed-decides left w (read_for_job q ℓ i) e (unfold Questions.sends in refl))

  -- ---- "The block's slot if its place is there, else the slot of the lowest-numbered unread dummy item", in a level that is no source. The items of
  -- a level below some n are blocks or have been read, and those from n on are dummies: a slot read for a dummy is that of an unread item k of these,
  -- and those below k have been read
  pub dummy-is-lowest : (q ℓ i : ℕ) → decide left ≡ read_for_request q ℓ i → is_source left q ℓ ≡ false → (r : Request) → left.request ≡ some r → slot_in ℓ (left.place r.block) ≡ none
      → (n : ℕ) × (Numbered left.shape left.order left.mark left.holds q ℓ n × LowestUnread left.shape left.order left.mark q ℓ n i)
  dummy-is-lowest q ℓ i e o r p u = go was
    where
      go : Was left → (n : ℕ) × (Numbered left.shape left.order left.mark left.holds q ℓ n × LowestUnread left.shape left.order left.mark q ℓ n i)
      go (live f) = lowest-dummy left f q ℓ i (rw e at (decided left)) o r p u
      go (shut w) = absurd (closed-decides left w (read_for_request q ℓ i) e (unfold Questions.sends in refl))

  -- P4: "For a source level with unread slots it reads the block's slot if the block is there unread, else the lowest-numbered unread item": the
  -- slot read is that of an unread item k, and the items below k have been read
  pub item-is-lowest : (q ℓ i : ℕ) → decide left ≡ read_for_request q ℓ i → is_source left q ℓ ≡ true → (r : Request) → left.request ≡ some r → if_unread (is_unread left q ℓ) (slot_in ℓ (left.place r.block)) ≡ none
      → LowestUnread left.shape left.order left.mark q ℓ 0 i
  item-is-lowest q ℓ i e o r p u = go was
    where
      go : Was left → LowestUnread left.shape left.order left.mark q ℓ 0 i
      go (live f) = lowest-item left f q ℓ i (rw e at (decided left)) o r p u
      go (shut w) = absurd (closed-decides left w (read_for_request q ℓ i) e (unfold Questions.sends in refl))

  -- ---- Reads are of slots that were written: a call that sends a read is given a state in which the slot's level is filled
  pub read-filled : (k : Call) (q ℓ i : ℕ) → (step left k).1.command ≡ cmd read q ℓ i → filled (left.counter q) ℓ ≡ true
  read-filled k q ℓ i e = go was
    where
      go : Was left → filled (left.counter q) ℓ ≡ true
      go (live f) = decided-filled left f q ℓ i (sent-turn left k q ℓ i e)
      go (shut w) = absurd (closed-reads left w q ℓ i (sent-turn left k q ℓ i e))

-- ---- Over the commands of a run from an open up to the next, with loads only of the form that the call just before has saved
module _ (s : State) (c : Call) (h : Shape) (first : c.ask ≡ opening h) (cs : List Call) (last : All (λ (x : Call). NoOpen x.ask) cs) (resumes : Resumes [] (c ∷ cs) (run s (c ∷ cs))) where
  -- a read of a slot is preceded by a write of it
  pub written-before : (q ℓ i : ℕ) (xs zs : List Outcome) (b : Outcome) → run s (c ∷ cs) ≡ xs ++ (b ∷ zs) → b.command ≡ cmd read q ℓ i
      → any (λ (o : Outcome). is_command (cmd write q ℓ i) o.command) xs ≡ true
  written-before q ℓ i xs zs b e r = write-within q ℓ i 0 xs b zs (λ z. omega arith) (rw e at (reads-after-writes q ℓ i s c h first cs last resumes)) r

  -- no written slot is read twice before it is written again: between two reads of a slot there is a write of it
  pub written-between : (q ℓ i : ℕ) (xs ys zs : List Outcome) (a b : Outcome) → run s (c ∷ cs) ≡ xs ++ (a ∷ (ys ++ (b ∷ zs))) → a.command ≡ cmd read q ℓ i → b.command ≡ cmd read q ℓ i
      → any (λ (o : Outcome). is_command (cmd write q ℓ i) o.command) ys ≡ true
  written-between q ℓ i xs ys zs a b e ra rb =
      let x = behind q ℓ i 0 xs (a ∷ (ys ++ (b ∷ zs))) (rw e at (reads-after-writes q ℓ i s c h first cs last resumes)) in
      let y : EachAfterWrite q ℓ i read (ys ++ (b ∷ zs)) = rw (read_is q ℓ i x.0 a.command ra) at x.1.1 in
      write-within q ℓ i read ys b zs (λ z. let v : ◌≡◌ {A = ℕ} 1 2 = z in omega arith) y rb
