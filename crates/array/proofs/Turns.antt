-- A turn keeps the contents of every block.
use Rattle.std.specs.Prelude.{◌≡◌, Bool, List, [], ◌∷◌, ◌++◌, ℕ, suc, ◌<◌, length, get_or, eqb, if◌then◌else◌}
use Rattle.std.proofs.Math.Path.{refl, ap, sym, subst}
use Rattle.std.proofs.Common.{◌∙◌, arith}
use Rattle.std.proofs.Math.Logic.{inl, inr, ⊎_elim}
use Rattle.std.proofs.Math.Bool.{true, false}
use Rattle.std.proofs.Math.Option.{Option}
use Rattle.std.proofs.Math.Decide.{ℕ_discrete}
use Rattle.lists.specs.All.{any-more, any_last, any_snoc}
use Rattle.lists.specs.Distinct.{Mem}
use Rattle.lists.specs.Members.{mem-without, dec_mem}
use Rattle.lists.specs.Search.{any, without}
use Rattle.lists.specs.Tables.{put, put_other}
use Rattle.rules.specs.Blocks
use Rattle.rules.specs.Completion.{is_command}
use Rattle.rules.specs.Jobs.{joined, levels_of}
use Rattle.rules.specs.Levels.{written_levels}
use Rattle.rules.specs.Rebuild
use Rattle.rules.specs.Rebuild.{Fill, do_rebuild, gathered, chosen}
use Rattle.rules.specs.Run
use Rattle.rules.specs.Setters.{◌▷◌, set_begun, set_cursor, set_request}
use Rattle.rules.specs.Shape.{Shape, cell, slots, offset}
use Rattle.rules.specs.State.{State, Request, Command, cmd, read, write, stored}
use Rattle.rules.specs.Turn
use Rattle.rules.specs.Turn.{read_for_request, read_for_job, write_next, do_step}
use Rattle.reachable.proofs.Blocks.{place-lt, not-nowhere}
use Rattle.reachable.proofs.Consequences.{busy-begun, next-write, wrote-before}
use Rattle.reachable.proofs.Decided.{Writes}
use Rattle.reachable.specs.Invariant.{Reached}
use Rattle.reachable.proofs.Kept.Rebuild.Commands.{top_in, first-write}
use Rattle.reachable.proofs.Kept.Rebuild.Drawing.{Drawing, Here, place_in, place_out}
use Rattle.reachable.proofs.Kept.Rebuild.Marks.{mark-else}
use Rattle.rules.specs.Request.{is_front, is_source, pass_level}
use Rattle.reachable.specs.Live.{write_number}
use Rattle.reachable.proofs.Live.{joined-begun, source-why, front-is}
use Rattle.reachable.proofs.Outstanding.{command-is, is-command, dec_one}
use Rattle.reachable.proofs.Slots.{front-in, why-gathered}
use Rattle.reachable.specs.Terms.{One}
use Rattle.reachable.specs.Values.{Values}
use Rattle.reachable.proofs.Values.{read_known, write-values, gathered-bytes, Case, moves, rests, case, rebuild-values}
use Rattle.array.specs.Claim.{Slots, store}
use Rattle.array.specs.Contents.{Contents, Sent, Written, Settled, Nowhere}
use Rattle.array.proofs.Slots.{store-yes, slot-bytes, store-not}

-- a write sent is no read outstanding
out-write : (q ℓ i p m j : ℕ) (cs : List Command) → any (is_command (cmd read p m j)) (cs ++ (cmd write q ℓ i ∷ [])) ≡ true → any (is_command (cmd read p m j)) cs ≡ true
out-write q ℓ i p m j cs e = ⊎_elim (λ k. k) (λ k. absurd (let z : ◌≡◌ {A = ℕ} 1 2 = (command-is (cmd read p m j) (cmd write q ℓ i) k).0 in omega arith)) (any_snoc (is_command (cmd read p m j)) cs (cmd write q ℓ i) e)

-- ..and is outstanding
due-last : (q ℓ i p m j : ℕ) (cs : List Command) → One p m j q ℓ i → any (is_command (cmd write p m j)) (cs ++ (cmd write q ℓ i ∷ [])) ≡ true
due-last q ℓ i p m j cs w = any_last (is_command (cmd write p m j)) cs (cmd write q ℓ i) (is-command (cmd write p m j) (cmd write q ℓ i) refl w)

-- What a turn's read changes beside marks and commands: the cursor, the request, and the jobs that run together, which count once their orders are drawn
aside-contents : (s : State) (last has : Slots) (array : ℕ → List ℕ) → Contents s last has array → (j n : ℕ) (x : Option Request) → ((s.sent ≡ 0 → ⊥) → j ≡ s.begun)
    → Contents (s ▷ set_begun j ▷ set_cursor n ▷ set_request x) last has array
unfolding Blocks.zeros
aside-contents s last has array k j n x same = go (ℕ_discrete s.sent 0)
  where
    go : Dec (s.sent ≡ 0) → Contents (s ▷ set_begun j ▷ set_cursor n ▷ set_request x) last has array
    go (yes calm) = record {
      absent = k.absent;
      values = record { waiting = k.values.waiting; drawn = λ b m i hb e z. absurd (z.1 calm); known = k.values.known };
      written = λ b m i hb e u. k.written b m i hb e (u.0, λ z. absurd (z.1 calm));
      settled = λ b m i hb e u. k.settled b m i hb e (u.0, λ z. absurd (z.1 calm));
    }
    go (no busy) = subst (λ i. Contents (s ▷ set_begun i ▷ set_cursor n ▷ set_request x) last has array) (sym (same busy)) (record {
      absent = k.absent;
      values = record { waiting = k.values.waiting; drawn = k.values.drawn; known = k.values.known };
      written = k.written;
      settled = k.settled;
    })

-- A read of an unread slot
module _ (s : State) (f : Reached s) (last has : Slots) (array : ℕ → List ℕ) (k : Contents s last has array) (q ℓ i : ℕ) (hℓ : ℓ < s.shape.L) (hi : i < slots ℓ)
    (un : s.mark (cell s.shape q ℓ i) ≡ 1) where
  abbrev h : Shape
  h = s.shape

  abbrev r' : State
  r' = Turn.send (cmd read q ℓ i) (Turn.mark_read q ℓ i s)

  read-values : Values r' array
  unfolding Turn.send Turn.mark_read
  read-values = record { waiting = k.values.waiting; drawn = k.values.drawn; known = read_known s f array k.values q ℓ i hℓ hi }

  read-sent : (p m j : ℕ) → Sent r' p m j → Sent s p m j
  unfolding Turn.send Turn.mark_read
  read-sent p m j u = (⊎_elim (λ z. inl (unmarked z)) (λ z. ⊎_elim inr (λ w. inl (new (command-is (cmd read p m j) (cmd read q ℓ i) w).1)) (any_snoc _ s.outstanding (cmd read q ℓ i) z)) u.0, u.1)
    where
      unmarked : put (cell h q ℓ i) 0 s.mark (cell h p m j) ≡ 1 → s.mark (cell h p m j) ≡ 1
      unmarked z = go (ℕ_discrete (cell h p m j) (cell h q ℓ i))
        where
          go : Dec (cell h p m j ≡ cell h q ℓ i) → s.mark (cell h p m j) ≡ 1
          go (yes w) = ap s.mark w ∙ un
          go (no w) = sym (put_other (cell h q ℓ i) 0 s.mark _ w) ∙ z

      new : One p m j q ℓ i → s.mark (cell h p m j) ≡ 1
      new w = rw (w.0, w.1, w.2) un

  read-written : Written r' last array
  unfolding Turn.send Turn.mark_read
  read-written b m j hb e u = k.written b m j hb e (read-sent (s.partition b) m j u)

  read-settled : Settled r' has array
  unfolding Turn.send Turn.mark_read
  read-settled b m j hb e u n = k.settled b m j hb e (read-sent (s.partition b) m j u) (λ z. n (any-more _ s.outstanding _ z))

  read-contents : Contents r' last has array
  unfolding Turn.send Turn.mark_read Blocks.zeros
  read-contents = record { absent = k.absent; values = read-values; written = read-written; settled = read-settled }

  pub request-contents : (js : List ℕ) → Contents (do_step (read_for_request q ℓ i) js s) last has array
  unfolding do_step Turn.send Turn.mark_read
  request-contents js = aside-contents r' last has array read-contents (if is_source s q ℓ then joined s q else s.begun) s.cursor (pass_level ℓ (suc (length s.outstanding)) s.request) (go (is_source s q ℓ) refl)
    where
      go : (b : Bool) → is_source s q ℓ ≡ b → (s.sent ≡ 0 → ⊥) → (if b then joined s q else s.begun) ≡ s.begun
      go true e n = joined-begun s f.running q (source-why s q ℓ e).0 (busy-begun s f n)
      go false e n = refl

  pub job-contents : s.sent ≡ 0 → (js : List ℕ) → Contents (do_step (read_for_job q ℓ i) js s) last has array
  unfolding do_step Turn.send Turn.mark_read
  job-contents z js = aside-contents r' last has array read-contents (joined s q) (suc (offset ℓ i)) s.request (λ n. absurd (n z))

-- A further write
module _ (s : State) (f : Reached s) (last has : Slots) (array : ℕ → List ℕ) (k : Contents s last has array) (q t i : ℕ) (d : Writes s q t i) (js : List ℕ) (f' : Reached (do_step (write_next q t i) js s)) where
  abbrev w' : State
  w' = do_step (write_next q t i) js s

  abbrev bs : List ℕ
  bs = Run.written w' (cmd write q t i)

  -- another slot was sent before
  write-sent : (p m j : ℕ) → j < slots m → ¬ One p m j q t i → Sent w' p m j → Sent s p m j
  unfolding do_step Turn.send
  write-sent p m j hj w u = (⊎_elim inl (λ z. inr (out-write q t i p m j s.outstanding z)) u.0, λ z. wrote-before s f q t i d p m j z hj (u.1 (z.0, (λ x. omega arith), z.2)) w)

  slot_of : (b m j : ℕ) → b < s.shape.N → s.place b ≡ stored m j → j < slots m
  slot_of b m j hb e = (place-lt s.shape.L m j (s.place b) (f.range.places b hb) e).1

  write-written : Written w' (store (cmd write q t i) bs last) array
  unfolding do_step Turn.send
  write-written b m j hb e u = go (dec_one (s.partition b) m j q t i)
    where
      go : Dec (One (s.partition b) m j q t i) → store (cmd write q t i) bs last (s.partition b) m j ≡ array b
      go (yes w) =
          store-yes (cmd write q t i) bs last refl (s.partition b) m j w
          ∙ slot-bytes w' f' q t i b hb w.0 (e ∙ rw (w.1, w.2))
          ∙ k.values.drawn b m j hb e (ap (is_front s.queue) w.0 ∙ rw d.front (front-is q d.rest), d.busy, subst (λ p. Mem m (written_levels s.shape (s.counter p) s.begun)) (sym w.0) (subst (λ x. Mem x (written_levels s.shape (s.counter q) s.begun)) (sym w.1) (next-write s f q t i d).0))
      go (no w) = store-not (cmd write q t i) bs last (s.partition b) m j w ∙ k.written b m j hb e (write-sent (s.partition b) m j (slot_of b m j hb e) w u)

  write-settled : Settled w' has array
  unfolding do_step Turn.send
  write-settled b m j hb e u n = k.settled b m j hb e (write-sent (s.partition b) m j (slot_of b m j hb e) (λ w. n (due-last q t i (s.partition b) m j s.outstanding w)) u) (λ z. n (any-more _ s.outstanding _ z))

  pub write-contents : Contents w' (store (cmd write q t i) bs last) has array
  unfolding do_step Turn.send Blocks.zeros
  write-contents = record {
    absent = k.absent;
    values = write-values s array k.values q t i d js;
    written = write-written;
    settled = write-settled;
  }

-- who is not chosen waits on
leave-stays : (bs xs : List ℕ) (b : ℕ) → ¬ Mem b bs → Mem b xs → Mem b (Rebuild.leave bs xs)
unfolding Rebuild.leave
leave-stays [] xs b n m = m
leave-stays (a ∷ bs) xs b n m = leave-stays bs (without (eqb a) xs) b (λ k. n (inr k)) (mem-without a b xs m (λ e. n (inl e)))

-- A rebuild
module _ (s : State) (f : Reached s) (last has : Slots) (array : ℕ → List ℕ) (k : Contents s last has array) (q : ℕ) (ls : List ℕ) (xs : List Fill) (d : Drawing s q ls xs)
    (f' : Reached (Turn.send (cmd write q (get_or ls 0 0) 0) (do_rebuild q ls xs s))) where
  abbrev t : ℕ
  t = get_or ls 0 0

  abbrev b' : State
  b' = Turn.send (cmd write q t 0) (do_rebuild q ls xs s)

  abbrev last' : Slots
  last' = store (cmd write q t 0) (Run.written b' (cmd write q t 0)) last

  rebuild-absent : Nowhere b' array
  unfolding Blocks.zeros Turn.send do_rebuild
  rebuild-absent b hb e n = go (dec_mem b (gathered s q))
    where
      go : Dec (Mem b (gathered s q)) → Blocks.zeros b' ≡ array b
      go (yes m) = let x = d.home b m in absurd (not-nowhere x.0.level _ (sym e ∙ place_in s f q ls xs d b x.0 x.1.0 x.1.1))
      go (no m) = k.absent b hb (sym (place_out s f q ls xs d b m) ∙ e) (λ w. n (leave-stays (chosen s q) s.waiting b (λ c. m (why-gathered s f q (front-in s f q d.step.rest d.step.front) d.step.calm b hb (inl c))) w))

  -- a slot of no written level was sent before; of the written levels' slots only the first is sent
  rest-sent : (p ℓ i : ℕ) → ℓ < s.shape.L → i < slots ℓ → (Here s f q ls xs d p ℓ → ⊥) → Sent b' p ℓ i → Sent s p ℓ i
  unfolding Turn.send do_rebuild
  rest-sent p ℓ i hℓ hi x u = (⊎_elim (λ z. inl (sym (mark-else s f q ls xs d p ℓ i hℓ hi x) ∙ z)) (λ z. inr (out-write q t 0 p ℓ i s.outstanding z)) u.0, λ z. absurd (z.1 d.step.calm))

  first-sent : (p ℓ i : ℕ) → p ≡ q → Mem ℓ ls → i < slots ℓ → Sent b' p ℓ i → (ℓ ≡ t) × (i ≡ 0)
  unfolding Turn.send do_rebuild levels_of
  first-sent p ℓ i v m hi u =
      let m' : Mem ℓ (written_levels s.shape (s.counter p) (joined s q)) = subst (λ x. Mem ℓ (written_levels s.shape (s.counter x) (joined s q))) (sym v) (rw d.step.goal at m) in
      let l : write_number (written_levels s.shape (s.counter p) (joined s q)) ℓ i < 1 = u.1 (ap (is_front s.queue) v ∙ rw d.step.front (front-is q d.step.rest), (λ z. omega arith), m') in
      first-write s f q ls xs d ℓ i m hi (subst (λ x. write_number (written_levels s.shape (s.counter x) (joined s q)) ℓ i < 1) v l)

  rebuild-written : Written b' last' array
  unfolding Turn.send do_rebuild
  rebuild-written b ℓ i hb e u = go (case s f array k.values q ls xs d b ℓ i hb e)
    where
      y : (ℓ < s.shape.L) × (i < slots ℓ)
      y = place-lt s.shape.L ℓ i (b'.place b) (f'.range.places b hb) e

      go : Case s f array k.values q ls xs d b ℓ i → last' (s.partition b) ℓ i ≡ array b
      go (moves m v w) =
          let z = first-sent (s.partition b) ℓ i v w y.1 u in
          store-yes (cmd write q t 0) (Run.written b' (cmd write q t 0)) last refl (s.partition b) ℓ i (v, z.0, z.1)
          ∙ slot-bytes b' f' q t 0 b hb v (e ∙ rw (z.0, z.1))
          ∙ gathered-bytes s f array k.values q ls xs d b m
      go (rests p x) =
          store-not (cmd write q t 0) (Run.written b' (cmd write q t 0)) last (s.partition b) ℓ i (λ w. x (sym w.0, rw w.1 (top_in s f q ls xs d)))
          ∙ k.written b ℓ i hb p (rest-sent (s.partition b) ℓ i y.0 y.1 x u)

  rebuild-settled : Settled b' has array
  unfolding Turn.send do_rebuild
  rebuild-settled b ℓ i hb e u n = go (case s f array k.values q ls xs d b ℓ i hb e)
    where
      y : (ℓ < s.shape.L) × (i < slots ℓ)
      y = place-lt s.shape.L ℓ i (b'.place b) (f'.range.places b hb) e

      go : Case s f array k.values q ls xs d b ℓ i → has (s.partition b) ℓ i ≡ array b
      go (moves m v w) = let z = first-sent (s.partition b) ℓ i v w y.1 u in absurd (n (due-last q t 0 (s.partition b) ℓ i s.outstanding (v, z.0, z.1)))
      go (rests p x) = k.settled b ℓ i hb p (rest-sent (s.partition b) ℓ i y.0 y.1 x u) (λ z. n (any-more _ s.outstanding _ z))

  pub rebuild-contents : Contents b' last' has array
  rebuild-contents = record {
    absent = rebuild-absent;
    values = rebuild-values s f array k.values q ls xs d f';
    written = rebuild-written;
    settled = rebuild-settled;
  }
