-- Documents 01 and 02 (P4): "A request is finished when it isn't held and all its reads are sent and completed"; ".. only when every job read sent by that
-- moment has completed too, wherever the block was." On every state.
use Rattle.std.specs.Prelude.{◌≡◌, Bool, not, ◌&&◌, ◌||◌, take, if◌then◌else◌}
use Rattle.std.proofs.Math.Path.{refl, ap, sym}
use Rattle.std.proofs.Common.{◌∙◌, subst, arith, length-append, eqb-true, eq-eqb}
use Rattle.std.proofs.Math.Bool.{true, false, true≢false}
use mathlib.Core.List.{List, [], ◌∷◌, ◌++◌, append-nil, append_assoc}
use Rattle.std.proofs.Math.Option.{Option, none, some, map}
use Prim.Native.Nat.{ℕ, zero, suc, ◌≤◌}
use Rattle.std.proofs.Math.Dec.{eqb}
use Rattle.std.proofs.Math.ListN.{length}
use Rattle.std.proofs.lemmas.Bool.{eqb-false}
use Rattle.lists.specs.All.{All, nil, cons, all_map}
use Rattle.lists.specs.Search.{any, without, first_left, is_none, without-yes, without-no, first_left-yes, first_left-no}
use Rattle.lists.specs.Tests.{and_r, not-true, or-false-l, or-false-r}
use Rattle.rules.specs.Collect.{finished, finish, collected}
use Rattle.rules.specs.Completion
use Rattle.rules.specs.Completion.{is_command, awaits_less, completed, complete}
use Rattle.rules.specs.Draws.{draws}
use Rattle.rules.specs.Laws.Answers.{opens}
use Rattle.rules.proofs.Laws.Answers.{Passed, accepted-passed, accepted-leaves, refused-keeps}
use Rattle.rules.proofs.Laws.Asked.{loaded-idle}
use Rattle.rules.specs.Laws.Found.{Between}
use Rattle.rules.specs.Blocks.{holder, look_up}
use Rattle.rules.specs.Open.{fresh}
use Rattle.rules.specs.Questions.{Ask, opening, request, turn, completion, collect, save, load, Call, bounds, questions, number, in_hand}
use Rattle.rules.specs.Rebuild.{do_rebuild}
use Rattle.rules.specs.Request.{accept, blocked, held, with_found, released_in, release, pass_level}
use Rattle.rules.specs.Reader.{levels_left}
use Rattle.rules.specs.Run
use Rattle.rules.specs.Run.{perform, step, after}
use Rattle.rules.specs.State.{State, Command, cmd, read, write, Request}
use Rattle.rules.specs.Turn.{Step, idle, no_dummy, read_for_request, read_for_job, rebuild, write_next, decide, command, do_step, mark_read, send}
use Rattle.rules.specs.Laws.Awaited.{Holds}

-- Of the commands xs those that these calls do not complete
abbrev completes : Ask → List Command → List Command
completes (opening h) xs = xs
completes (request k b bs) xs = xs
completes turn xs = xs
completes (completion c bs) xs = without (is_command c) xs
completes collect xs = xs
completes save xs = xs
completes (load form) xs = xs

unfoldable pub uncompleted : State → List Call → List Command → List Command
uncompleted s [] xs = xs
uncompleted s (c ∷ cs) xs = uncompleted (step s c).0 cs (if eqb (number s c) 0 then completes c.ask xs else xs)

-- ---- A list that begins with xs, and what it is without a command
module _ (p : Command → Bool) where
  without-front : (xs ys : List Command) → (zs : List Command) × (without p (xs ++ ys) ≡ without p xs ++ zs)
  without-front [] ys = (without p ys, unfold without in refl)
  without-front (x ∷ xs) ys = go (p x) refl (without-front xs ys)
    where
      go : (t : Bool) → p x ≡ t → (zs : List Command) × (without p (xs ++ ys) ≡ without p xs ++ zs) → (zs : List Command) × (without p (x ∷ (xs ++ ys)) ≡ without p (x ∷ xs) ++ zs)
      go true e k = (ys, without-yes p x (xs ++ ys) e ∙ ap (λ r. r ++ ys) (sym (without-yes p x xs e)))
      go false e k = (k.0, without-no p x (xs ++ ys) e ∙ ap (λ r. x ∷ r) k.1 ∙ ap (λ r. r ++ k.0) (sym (without-no p x xs e)))

  -- of the first n those in front are counted
  left-front : (n : ℕ) (xs ys : List Command) → length xs ≤ n → length (without p xs) ≤ first_left p n (xs ++ ys)
  left-front n [] ys l = unfold without in (omega arith)
  left-front zero (x ∷ xs) ys l = absurd (omega arith)
  left-front (suc n) (x ∷ xs) ys l = go (p x) refl (left-front n xs ys (omega arith))
    where
      go : (t : Bool) → p x ≡ t → length (without p xs) ≤ first_left p n (xs ++ ys) → length (without p (x ∷ xs)) ≤ first_left p (suc n) (x ∷ (xs ++ ys))
      go true e k = rw (without-yes p x xs e, first_left-yes p x (xs ++ ys) n e) (omega arith)
      go false e k = rw (without-no p x xs e, first_left-no p x (xs ++ ys) n e) (omega arith)

any-front : (p : Command → Bool) (n : ℕ) (xs ys : List Command) → length xs ≤ n → any p (take n (xs ++ ys)) ≡ false → All (λ c. p c ≡ false) xs
any-front p n [] ys l e = nil
any-front p zero (x ∷ xs) ys l e = absurd (omega arith)
any-front p (suc n) (x ∷ xs) ys l e =
    let k : (p x || any p (take n (xs ++ ys))) ≡ false = unfold any in e in
    cons (or-false-l (p x) (any p (take n (xs ++ ys))) k) (any-front p n xs ys (omega arith) (or-false-r (p x) (any p (take n (xs ++ ys))) k))

-- ---- A request in hand that is not held, for block b of partition q, awaits the commands xs, which are the first that are outstanding
record Awaits (xs : List Command) (b q : ℕ) (s : State) : Type 0 where
  hand : Request
  in_hand : s.request ≡ some hand
  block : hand.block ≡ b
  free : held hand ≡ false
  partition : s.partition b ≡ q
  rest : List Command
  front : s.outstanding ≡ xs ++ rest
  few : length xs ≤ hand.awaits

-- a request that is not held is not released again
pub release-free : (s : State) (r : Request) → s.request ≡ some r → held r ≡ false → (release s).request ≡ some r
release-free s r e u = ap (map (released_in s)) e ∙ ap some (unfold released_in in (rw u))

module _ {xs : List Command} {b q : ℕ} where
  longer : (s : State) → Awaits xs b q s → length xs ≤ suc (length s.outstanding)
  longer s f = omega (arith, ap length f.front, length-append xs f.rest)

  -- one command more
  more : (s : State) (f : Awaits xs b q s) (c : Command) → s.outstanding ++ (c ∷ []) ≡ xs ++ (f.rest ++ (c ∷ []))
  more s f c = ap (λ r. r ++ (c ∷ [])) f.front ∙ append_assoc xs f.rest (c ∷ [])

  -- the request and the partitions stay, and a command is sent
  sent : (s s' : State) (c : Command) → s'.request ≡ s.request → s'.partition ≡ s.partition → s'.outstanding ≡ s.outstanding ++ (c ∷ []) → Awaits xs b q s → Awaits xs b q s'
  sent s s' c r p o f = record {
    hand = f.hand;
    in_hand = r ∙ f.in_hand;
    block = f.block;
    free = f.free;
    partition = ap (λ (g : ℕ → ℕ). g b) p ∙ f.partition;
    rest = f.rest ++ (c ∷ []);
    front = o ∙ more s f c;
    few = f.few;
  }

  turn-awaits : (s : State) (x : Step) (js : List ℕ) → Awaits xs b q s → Awaits xs b q (do_step x js s)
  unfolding do_step mark_read send do_rebuild command
  turn-awaits s idle js f = f
  turn-awaits s no_dummy js f = f
  turn-awaits s (read_for_request p ℓ i) js f = record {
    hand = record {
      kind = f.hand.kind;
      block = f.hand.block;
      bytes = f.hand.bytes;
      next = f.hand.next;
      evict = f.hand.evict;
      level = suc ℓ;
      found = f.hand.found;
      awaits = suc (length s.outstanding);
    };
    in_hand = ap (pass_level ℓ (suc (length s.outstanding))) f.in_hand ∙ unfold pass_level in refl;
    block = f.block;
    free = unfold held in f.free;
    partition = f.partition;
    rest = f.rest ++ (cmd read p ℓ i ∷ []);
    front = more s f (cmd read p ℓ i);
    few = longer s f;
  }
  turn-awaits s (read_for_job p ℓ i) js f = sent s (do_step (read_for_job p ℓ i) js s) (cmd read p ℓ i) refl refl refl f
  turn-awaits s (rebuild p t) js f = sent s (do_step (rebuild p t) js s) (command (rebuild p t)) refl refl refl f
  turn-awaits s (write_next p t i) js f = sent s (do_step (write_next p t i) js s) (cmd write p t i) refl refl refl f

  release-awaits : (s : State) → Awaits xs b q s → Awaits xs b q (release s)
  release-awaits s f = record {
    hand = f.hand;
    in_hand = release-free s f.hand f.in_hand f.free;
    block = f.block;
    free = f.free;
    partition = f.partition;
    rest = f.rest;
    front = f.front;
    few = f.few;
  }

-- what a completion leaves of these, with its command gone
module _ (s : State) (c : Command) (bs : List ℕ) where
  abbrev Parts : Type 0
  Parts = Option Request × (List Command × (ℕ → ℕ))

  abbrev parts : State → Parts
  parts x = (x.request, (x.outstanding, x.partition))

  complete-parts : parts (complete c bs s) ≡ parts (completed c s)
  unfolding complete Completion.complete_read Completion.complete_write Completion.gather_bytes Completion.finish_job Completion.end_job
  complete-parts = go (eqb c.kind 1) (holder s c.partition c.level c.slot) s.queue
    where
      s' : State
      s' = completed c s

      ended : (q : ℕ) (t : Bool) → parts (if t then Completion.end_job q s' else s') ≡ parts s'
      ended q true = refl
      ended q false = refl

      go : (t : Bool) (b : Option ℕ) (qs : List ℕ) → parts (if t then Completion.gather_bytes b bs s' else Completion.finish_job qs s') ≡ parts s'
      go true none qs = refl
      go true (some b) qs = refl
      go false b [] = refl
      go false b (q ∷ qs) = ended q (Completion.job_done s' q)

  completion-awaits : {xs : List Command} {b q : ℕ} → Awaits xs b q s → Awaits (without (is_command c) xs) b q (complete c bs s)
  completion-awaits {xs} {b} {q} f =
      let k = without-front (is_command c) xs f.rest in
      record {
        hand = awaits_less c s.outstanding f.hand;
        in_hand = ap (λ (x : Parts). x.0) complete-parts ∙ (unfold completed in (ap (map (awaits_less c s.outstanding)) f.in_hand));
        block = f.block;
        free = unfold held in f.free;
        partition = ap (λ (x : Parts). x.1.1 b) complete-parts ∙ (unfold completed in f.partition);
        rest = k.0;
        front = ap (λ (x : Parts). x.1.0) complete-parts ∙ (unfold completed in (ap (without (is_command c)) f.front ∙ k.1));
        few = rw f.front (left-front (is_command c) f.hand.awaits xs f.rest f.few);
      }

-- ---- Calls between the release and the collect
module _ {b q : ℕ} where
  busy : {xs : List Command} (s : State) → Awaits xs b q s → is_none s.request ≡ true → ⊥
  busy s f k = true≢false (sym k ∙ ap is_none f.in_hand ∙ unfold is_none in refl)

  perform-awaits : {xs : List Command} (s : State) (a : Ask) (m : ℕ) (ws : List ℕ) (n : ℕ) (js : List ℕ) → Awaits xs b q s → opens a ≡ false → (a ≡ collect → ⊥) → Passed (questions s a m ws n)
      → Awaits (completes a xs) b q (perform s a js)
  unfolding perform questions opens
  perform-awaits s (opening h) m ws n js f o k y = absurd (true≢false o)
  perform-awaits s (request j b bs) m ws n js f o k y = absurd (busy s f y.1.0)
  perform-awaits s turn m ws n js f o k y = turn-awaits s (decide s) js f
  perform-awaits s (completion c bs) m ws n js f o k y = completion-awaits s c bs f
  perform-awaits s collect m ws n js f o k y = absurd (k refl)
  perform-awaits s save m ws n js f o k y = f
  perform-awaits s (load form) m ws n js f o k y = absurd (true≢false o)

  step-awaits : {xs : List Command} (s : State) (c : Call) → Awaits xs b q s → opens c.ask ≡ false → (c.ask ≡ collect → number s c ≡ 0 → ⊥)
      → Awaits (if eqb (number s c) 0 then completes c.ask xs else xs) b q (step s c).0
  step-awaits {xs} s c f o k = go (eqb (number s c) 0) refl
    where
      go : (t : Bool) → eqb (number s c) 0 ≡ t → Awaits (if t then completes c.ask xs else xs) b q (step s c).0
      go true e =
          let z = eqb-true (number s c) 0 e in
          let js : List ℕ = Run.numbers_of (draws (bounds s c.ask) c.words) in
          let w : (step s c).0 ≡ release (perform s c.ask js) = accepted-leaves s c z in
          rw w (release-awaits (perform s c.ask js) (perform-awaits s c.ask c.memory c.words c.buffer js f o (λ v. k v z) (accepted-passed s c z)))
      go false e = rw (refused-keeps s c o (eqb-false (number s c) 0 e)) f

  after-awaits : {xs : List Command} (ds : List Call) (s : State) → Awaits xs b q s → Between s ds → Awaits (uncompleted s ds xs) b q (after s ds)
  unfolding uncompleted after
  after-awaits [] s f w = f
  after-awaits {xs = xs} (d ∷ ds) s f w = after-awaits {xs = if eqb (number s d) 0 then completes d.ask xs else xs} ds (step s d).0 (step-awaits s d f w.0 w.1) w.2

  -- a finished request awaits nothing of its partition
  finished-done : {xs : List Command} (s : State) → Awaits xs b q s → in_hand (finished s) s.request ≡ true → All (λ c. c.partition ≡ q → ⊥) xs
  unfolding in_hand finished
  finished-done {xs} s f e =
      let r = f.hand in
      let k : finished s r ≡ true = sym (ap (in_hand (finished s)) f.in_hand) ∙ e in
      let none : any (λ c. eqb c.partition (s.partition r.block)) (take r.awaits s.outstanding) ≡ false = not-true _ (and_r (not (held r) && eqb (length (levels_left s r)) 0) _ k) in
      let at : s.partition r.block ≡ q = ap s.partition f.block ∙ f.partition in
      all_map (λ c h z. true≢false (sym (eq-eqb c.partition (s.partition r.block) (z ∙ sym at)) ∙ h)) (any-front (λ c. eqb c.partition (s.partition r.block)) r.awaits xs f.rest f.few (rw f.front at none))

one : {x y : Request} → some x ≡ some y → x ≡ y
one w = cc

no-hand : Holds none
no-hand r w = absurd (let z : ◌≡◌ {A = ℕ} 0 1 = cc in omega arith)

-- what a call does before the release looks no block up
found-kept : (g : Request → Request) → ((r : Request) → (g r).found ≡ r.found) → (o : Option Request) → Holds o → Holds (map g o)
found-kept g k none h = no-hand
found-kept g k (some x) h = λ r w. unfold held in (ap (λ (y : Request). is_none y.found) (sym (one w)) ∙ ap is_none (k x) ∙ unfold held in (h x refl))

pass-held : (ℓ n : ℕ) (o : Option Request) → Holds o → Holds (pass_level ℓ n o)
unfolding pass_level
pass-held ℓ n none h = no-hand
pass-held ℓ n (some x) h = λ r w. unfold held in (ap (λ (y : Request). is_none y.found) (sym (one w)) ∙ unfold held in (h x refl))

turn-held : (s : State) (x : Step) (js : List ℕ) → Holds s.request → Holds (do_step x js s).request
unfolding do_step mark_read send do_rebuild
turn-held s idle js h = h
turn-held s no_dummy js h = h
turn-held s (read_for_request q ℓ i) js h = pass-held ℓ (suc (length s.outstanding)) s.request h
turn-held s (read_for_job q ℓ i) js h = h
turn-held s (rebuild q t) js h = h
turn-held s (write_next q t i) js h = h

pub perform-held : (s : State) (a : Ask) (js : List ℕ) → Holds s.request → Holds (perform s a js).request
unfolding perform
perform-held s (opening h) js k = unfold fresh in no-hand
perform-held s (request j b bs) js k = λ r w. unfold accept in (ap held (sym (one (unfold accept in w))) ∙ unfold held is_none in refl)
perform-held s turn js k = turn-held s (decide s) js k
perform-held s (completion c bs) js k =
    subst Holds (sym (ap (λ (x : Parts s c bs). x.0) (complete-parts s c bs))) (unfold completed in (found-kept (awaits_less c s.outstanding) (λ r. refl) s.request k))
perform-held s collect js k = collected-held s.request k
  where
    collected-held : (o : Option Request) → Holds o → Holds (collected o s).request
    collected-held none h = unfold collected in k
    collected-held (some r) h = unfold collected finish in no-hand
perform-held s save js k = k
perform-held s (load form) js k = subst Holds (sym (loaded-idle form)) no-hand

-- at its release a request awaits all that is outstanding
release-all : (s : State) → Holds s.request → (r : Request) → (release s).request ≡ some r → held r ≡ false → r.awaits ≡ length s.outstanding
release-all s h r e u = go s.request h e
  where
    by : (x : Request) (t : Bool) → held x ≡ true → (if t then with_found (look_up s x.block) (length s.outstanding) x else x) ≡ r → r.awaits ≡ length s.outstanding
    by x true k w = ap (λ (y : Request). y.awaits) (sym w)
    by x false k w = absurd (true≢false (sym k ∙ ap held w ∙ u))

    go : (o : Option Request) → Holds o → map (released_in s) o ≡ some r → r.awaits ≡ length s.outstanding
    go none h w = absurd (true≢false (sym (no-hand r w) ∙ u))
    go (some x) h w = by x (held x && not (blocked s x)) (h x refl) (unfold released_in in (one w))

-- ---- By the collect

-- a request in hand that awaits all that is outstanding: the commands of its partition among these have completed by its collect
module _ (s : State) (r : Request) (in_hand : s.request ≡ some r) (u : held r ≡ false) (all : r.awaits ≡ length s.outstanding)
    (ds : List Call) (w : Between s ds) (e : Call) (v : e.ask ≡ collect) (y : number (after s ds) e ≡ 0)
  where
    start : Awaits s.outstanding r.block (s.partition r.block) s
    start = record { hand = r; in_hand = in_hand; block = refl; free = u; partition = refl; rest = []; front = sym (append-nil s.outstanding); few = omega (arith, all) }

    passed : Passed (questions (after s ds) collect e.memory e.words e.buffer)
    passed = let p = accepted-passed (after s ds) e y in rw v at p

    all_done : All (λ x. x.partition ≡ s.partition r.block → ⊥) (uncompleted s ds s.outstanding)
    all_done = finished-done (after s ds) (after-awaits ds s start w) (unfold questions in passed.1.1.0)

-- A call c releases a request r. By its collect, the commands of its block's partition that were outstanding at the release have completed
pub awaited-done : (s : State) (c : Call) (r : Request) → Holds s.request → (step s c).0.request ≡ some r → held r ≡ false → number s c ≡ 0
    → (ds : List Call) → Between (step s c).0 ds → (e : Call) → e.ask ≡ collect → number (after (step s c).0 ds) e ≡ 0
    → All (λ x. x.partition ≡ (step s c).0.partition r.block → ⊥) (uncompleted (step s c).0 ds (step s c).0.outstanding)
awaited-done s c r h k u z ds w e v y = all_done (step s c).0 r k u all ds w e v y
  where
    js : List ℕ
    js = Run.numbers_of (draws (bounds s c.ask) c.words)

    all : r.awaits ≡ length (step s c).0.outstanding
    all = release-all (perform s c.ask js) (perform-held s c.ask js h) r (ap (λ (x : State). x.request) (sym (accepted-leaves s c z)) ∙ k) u ∙ ap (λ (x : State). length x.outstanding) (sym (accepted-leaves s c z))

-- Document 01: "finished when .. all its reads are sent and completed". A turn c sends a read of a request r. By its collect, the read has completed, with
-- all else of the partition that was outstanding then
pub read_done : (s : State) (c : Call) (r : Request) (q ℓ i : ℕ) → s.request ≡ some r → held r ≡ false → c.ask ≡ turn → number s c ≡ 0 → decide s ≡ read_for_request q ℓ i
    → (ds : List Call) → Between (step s c).0 ds → (e : Call) → e.ask ≡ collect → number (after (step s c).0 ds) e ≡ 0
    → All (λ x. x.partition ≡ s.partition r.block → ⊥) (uncompleted (step s c).0 ds (s.outstanding ++ (cmd read q ℓ i ∷ [])))
read_done s c r q ℓ i k u a z d ds w e v y =
    subst (λ (p : ℕ). All (λ x. x.partition ≡ p → ⊥) (uncompleted (step s c).0 ds (s.outstanding ++ (cmd read q ℓ i ∷ [])))) there
    (subst (λ (os : List Command). All (λ x. x.partition ≡ (step s c).0.partition r.block → ⊥) (uncompleted (step s c).0 ds os)) sent (all_done (step s c).0 reads in_hand free all ds w e v y))
  where
    reads : Request
    reads = record { kind = r.kind; block = r.block; bytes = r.bytes; next = r.next; evict = r.evict; level = suc ℓ; found = r.found; awaits = suc (length s.outstanding) }

    js : List ℕ
    js = Run.numbers_of (draws (bounds s c.ask) c.words)

    is : (step s c).0 ≡ release (do_step (read_for_request q ℓ i) js s)
    is = accepted-leaves s c z ∙ ap (λ x. release (perform s x js)) a ∙ (unfold perform in (ap (λ x. release (do_step x js s)) d))

    free : held reads ≡ false
    free = unfold held in u

    in_hand : (step s c).0.request ≡ some reads
    in_hand = ap (λ (x : State). x.request) is ∙ release-free (do_step (read_for_request q ℓ i) js s) reads (unfold do_step mark_read send in (ap (pass_level ℓ (suc (length s.outstanding))) k ∙ unfold pass_level in refl)) free

    sent : (step s c).0.outstanding ≡ s.outstanding ++ (cmd read q ℓ i ∷ [])
    sent = ap (λ (x : State). x.outstanding) is ∙ (unfold do_step mark_read send in refl)

    there : (step s c).0.partition r.block ≡ s.partition r.block
    there = ap (λ (x : State). x.partition r.block) is ∙ (unfold do_step mark_read send in refl)

    all : suc (length s.outstanding) ≡ length (step s c).0.outstanding
    all = omega (arith, ap length sent, length-append s.outstanding (cmd read q ℓ i ∷ []))
