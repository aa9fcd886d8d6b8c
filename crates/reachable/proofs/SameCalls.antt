-- Two states that differ only in what a form leaves out: what each turn, completion and collect does is the same in both, and leaves two such states.
use Rattle.std.specs.Prelude.{◌≡◌, Bool, ◌&&◌, length, get_or, if◌then◌else◌}
use Rattle.std.proofs.Math.Path.{refl, ap, sym}
use Rattle.std.proofs.Common.{◌∙◌, subst, inl, arith, eqb-true, pow_pos}
use Rattle.std.proofs.Math.Logic.{⊎_elim}
use Rattle.std.proofs.Math.Bool.{true, false, not}
use mathlib.Core.List.{List, [], ◌∷◌, ◌++◌}
use Rattle.std.proofs.Math.Option.{Option, none, some}
use Prim.Native.Nat.{ℕ, suc, ◌+◌, ◌<◌}
use Rattle.std.proofs.Math.Decide.{ℕ_discrete}
use Rattle.std.proofs.Math.Dec.{eqb}
use Rattle.std.proofs.lemmas.Bool.{eqb-false}
use Rattle.rules.specs.Rebuild
use Rattle.rules.specs.Rebuild.{Fill, fills, gathered, new_orders, write_levels}
use Rattle.rules.specs.Setters.{set_begun}
use Rattle.lists.specs.All.{any-all, any-kept}
use Rattle.lists.specs.Distinct.{Mem}
use Rattle.lists.specs.Members.{all-mem, append-mem, keep-mem, member-mem}
use Rattle.lists.specs.Search
use Rattle.lists.specs.Tables.{put, put_same, put_other}
use Rattle.rules.specs.Blocks
use Rattle.rules.specs.Collect.{finish, finished}
use Rattle.rules.specs.Completion
use Rattle.rules.specs.Completion.{is_command, completed, gather_bytes, finish_job, end_job}
use Rattle.rules.specs.Draws.{Drew}
use Rattle.rules.specs.Laws.Decided.{StepIn}
use Rattle.rules.specs.Laws.Form.Saveable.{over}
use Rattle.rules.proofs.Laws.Kept.{completed-in}
use Rattle.rules.specs.Jobs.{joined, levels_of}
use Rattle.rules.specs.Levels.{filled}
use Rattle.rules.specs.Ranges.{others}
use Rattle.rules.specs.Run
use Rattle.rules.specs.Shape.{Shape, cell, slots}
use Rattle.rules.specs.State.{State, Command, cmd, read, write, Request, Place, nowhere, stored}
use Rattle.rules.specs.Turn
use Rattle.rules.specs.Turn.{Step, idle, no_dummy, read_for_request, read_for_job, rebuild, write_next, command, do_step}
use Rattle.reachable.proofs.Begins.{Begins, counted-still, job-begins, request-begins}
use Rattle.reachable.proofs.Consequences.{levels-first, done-why, next-write, holder-place, place-holder, block-lt, finished-read, finished-aside, named-is}
use Rattle.reachable.proofs.Decided.{Decided}
use Rattle.reachable.proofs.Fills.{In, level_of, written-here, written-else}
use Rattle.reachable.specs.Invariant.{Reached}
use Rattle.reachable.proofs.Kept.Collect as CollectKept
use Rattle.reachable.proofs.Kept.Collect.{other_block, place_other, partition-other}
use Rattle.reachable.proofs.Kept.Completion as CompletionKept
use Rattle.reachable.proofs.Kept.Completion.{completed-kept}
use Rattle.reachable.proofs.Kept.Rebuild.Drawing.{Drawing, Here, drawing, lives, fill-of, fill-fits, nodup-fills}
use Rattle.reachable.proofs.Kept.Write as WriteKept
use Rattle.reachable.specs.Live
use Rattle.reachable.specs.Live.{counted, Target}
use Rattle.reachable.proofs.Live.{front-is}
use Rattle.reachable.proofs.Outstanding.{command-is, dec_one}
use Rattle.reachable.proofs.Pending.{front-more}
use Rattle.reachable.specs.Same.{Same}
use Rattle.reachable.proofs.Same.{orders_after}
use Rattle.reachable.specs.Terms.{One}
use Rattle.reachable.specs.Values.{Values, Out}

-- ---- A turn

sent-counted : (c : Command) (s : State) (q : ℕ) → counted (Turn.send c s) q ≡ counted s q
unfolding Turn.send counted Live.drawn
sent-counted c s q = refl

module _ (s : State) (f : Reached s) (y : ℕ → List ℕ) (o : ℕ → ℕ) (k : Same s y o) where
  abbrev h : Shape
  h = s.shape

  abbrev Ordered : State → (ℕ → ℕ) → Type 0
  Ordered s' o' = (q ℓ j : ℕ) → q < s'.shape.P → ℓ < s'.shape.L → filled (counted s' q) ℓ ≡ true → j < slots ℓ → o' (cell s'.shape q ℓ j) ≡ s'.order (cell s'.shape q ℓ j)

  rebuild-orders : (p : ℕ) (ls : List ℕ) (xs : List Fill) → Drawing s p ls xs → Ordered (Turn.send (cmd write p (get_or ls 0 0) 0) (Rebuild.do_rebuild p ls xs s)) (new_orders h p xs o)
  unfolding Turn.send Rebuild.do_rebuild new_orders
  rebuild-orders p ls xs d q ℓ j hq hℓ e hj = ⊎_elim
      (λ w. let x = fill-of s f p ls xs d ℓ w.1 in here x.0 x.1.0 (w.0, x.1.1))
      (λ w. else-at o w.0 ∙ k.orders q ℓ j hq hℓ w.1 hj ∙ sym (else-at s.order w.0))
      (lives s f p ls xs d q ℓ hℓ (ap (λ c. filled c ℓ) (sym (sent-counted (cmd write p (get_or ls 0 0) 0) (Rebuild.do_rebuild p ls xs s) q)) ∙ e))
    where
      fit : (x : Fill) → In x xs → (x.level < h.L) × (length x.order ≡ slots x.level)
      fit x m = (fill-fits s f p ls xs d x m, (d.good x m).long)

      here : (x : Fill) → In x xs → (p ≡ q) × (x.level ≡ ℓ) → write_levels h p level_of (λ (x : Fill). x.order) xs o (cell h q ℓ j) ≡ write_levels h p level_of (λ (x : Fill). x.order) xs s.order (cell h q ℓ j)
      here x m w = written-here h p level_of (λ (x : Fill). x.order) xs fit (nodup-fills s f p ls xs d) o x m q ℓ j w hj
          ∙ sym (written-here h p level_of (λ (x : Fill). x.order) xs fit (nodup-fills s f p ls xs d) s.order x m q ℓ j w hj)

      else-at : (g : ℕ → ℕ) → (Here s f p ls xs d q ℓ → ⊥) → write_levels h p level_of (λ (x : Fill). x.order) xs g (cell h q ℓ j) ≡ g (cell h q ℓ j)
      else-at g n = written-else h p level_of (λ (x : Fill). x.order) xs fit g q ℓ j hℓ hj (λ v m. n (v, subst (λ l. Mem ℓ l) d.levels m))

  -- a run that begins
  begun-orders : (n : ℕ) → Begins s n → (q ℓ j : ℕ) → q < h.P → ℓ < h.L → filled (counted (set_begun n s) q) ℓ ≡ true → j < slots ℓ → o (cell h q ℓ j) ≡ s.order (cell h q ℓ j)
  begun-orders n b q ℓ j hq hℓ e hj = k.orders q ℓ j hq hℓ (ap (λ (c : ℕ → ℕ). filled (c q) ℓ) (sym (counted-still s n f b)) ∙ e) hj

  pub step-orders : (x : Step) (js : List ℕ) → Decided s x → Drew (Turn.step_bounds x) js → Ordered (do_step x js s) (orders_after x js s o)
  unfolding do_step orders_after Turn.step_bounds
  step-orders idle js d w = k.orders
  step-orders no_dummy js d w = k.orders
  step-orders (read_for_request p m i) js d w = unfold Turn.send Turn.mark_read counted Live.drawn in (begun-orders _ (request-begins s f p m i d))
  step-orders (read_for_job p m i) js d w = unfold Turn.send Turn.mark_read counted Live.drawn in (begun-orders _ (job-begins s p m i d))
  step-orders (rebuild p ls) js d w = rebuild-orders p ls (fills ls js (gathered s p)) (drawing s f p ls js d w)
  step-orders (write_next p t i) js d w = λ q ℓ j hq hℓ e hj. unfold Turn.send in (k.orders q ℓ j hq hℓ (ap (λ (c : ℕ → ℕ). filled (c q) ℓ) (sym (WriteKept.counted-kept s f p t i d js)) ∙ e) hj)

-- the bytes of a write: the slot's block is one whose contents the client has
pub written_same : (s : State) (y : ℕ → List ℕ) (o : ℕ → ℕ) (c : Command) → ((b : ℕ) → c.kind ≡ write → Blocks.holder s c.partition c.level c.slot ≡ some b → s.bytes b ≡ y b)
    → Run.written (over y o s) c ≡ Run.written s c
unfolding Run.written Blocks.slot_bytes Blocks.holder Blocks.zeros
written_same s y o c e = go (eqb c.kind write) refl (Blocks.holder s c.partition c.level c.slot) refl
  where
    go : (b : Bool) → eqb c.kind write ≡ b → (x : Option ℕ) → Blocks.holder s c.partition c.level c.slot ≡ x
        → (if b then Blocks.slot_bytes (over y o s) x else []) ≡ (if b then Blocks.slot_bytes s x else [])
    go false z x v = refl
    go true z none v = refl
    go true z (some b) v = sym (e b (eqb-true c.kind write z) v)

module _ (s : State) (f : Reached s) where
  -- a block in a slot of a level that a drawn job writes
  target-bytes : (y : ℕ → List ℕ) → Values s y → (q ℓ i b : ℕ) → q < s.shape.P → ℓ < s.shape.L → i < slots ℓ → Target s q ℓ → Blocks.holder s q ℓ i ≡ some b → s.bytes b ≡ y b
  unfolding Blocks.holder
  target-bytes y v q ℓ i b hq hℓ hi z e =
      let x = holder-place s f q ℓ i b hq hℓ hi e in
      let n : s.holds (cell s.shape q ℓ i) ≡ suc b = named-is (s.holds (cell s.shape q ℓ i)) b e in
      v.drawn b ℓ i (omega (arith, f.range.holds q ℓ i hq hℓ hi)) x.1 (subst (λ p. Target s p ℓ) (sym x.0) z)

pub turn-written : (s : State) → Reached s → (x : Step) (js : List ℕ) → Decided s x → StepIn s x → Reached (do_step x js s) → (y : ℕ → List ℕ) → Values (do_step x js s) y
    → (b : ℕ) → (command x).kind ≡ write → Blocks.holder (do_step x js s) (command x).partition (command x).level (command x).slot ≡ some b → (do_step x js s).bytes b ≡ y b
unfolding command
turn-written s f idle js d h f' y v b z e = absurd (omega (arith, z))
turn-written s f no_dummy js d h f' y v b z e = absurd (omega (arith, z))
turn-written s f (read_for_request q ℓ i) js d h f' y v b z e = absurd (let w : ◌≡◌ {A = ℕ} 1 2 = z in omega arith)
turn-written s f (read_for_job q ℓ i) js d h f' y v b z e = absurd (let w : ◌≡◌ {A = ℕ} 1 2 = z in omega arith)
turn-written s f (rebuild q ls) js d h f' y v b z e = target-bytes (do_step (rebuild q ls) js s) f' y v q (get_or ls 0 0) 0 b
    (unfold do_step Turn.send Rebuild.do_rebuild in h.0) (unfold do_step Turn.send Rebuild.do_rebuild in (all-mem h.1 (get_or ls 0 0) (subst (λ l. Mem (get_or ls 0 0) l) (sym d.goal) goal))) (pow_pos (get_or ls 0 0 + 1))
    (unfold do_step Turn.send Rebuild.do_rebuild in (rw d.front (front-is q d.rest), (λ x. omega arith), unfold levels_of in goal)) e
  where
    goal : Mem (get_or ls 0 0) (levels_of s q)
    goal = let x = levels-first s f q d.rest d.front in rw (d.goal, x.1) (inl refl)
turn-written s f (write_next q t i) js d h f' y v b z e = target-bytes (do_step (write_next q t i) js s) f' y v q t i b
    (unfold do_step Turn.send in h.0) (unfold do_step Turn.send in h.1) h.2
    (unfold do_step Turn.send in (rw d.front (front-is q d.rest), (λ x. omega arith), (next-write s f q t i d).0)) e

-- ---- A completion

unfoldable pub bytes_after : Option ℕ → List ℕ → (ℕ → List ℕ) → ℕ → List ℕ
bytes_after none bs y = y
bytes_after (some b) bs y = put b bs y

module _ (s : State) (f : Reached s) (y : ℕ → List ℕ) (o : ℕ → ℕ) (k : Same s y o) (c : Command) where
  abbrev own : Option ℕ
  own = Blocks.holder s c.partition c.level c.slot

  -- a read
  module _ (bs : List ℕ) where
    abbrev s₁ : State
    s₁ = Completion.complete_read c bs s

    read-over : Completion.complete_read c bs (over y o s) ≡ over (bytes_after own bs y) o s₁
    unfolding Completion.complete_read completed gather_bytes bytes_after Blocks.holder
    read-over = go own
      where
        go : (x : Option ℕ) → gather_bytes x bs (completed c (over y o s)) ≡ over (bytes_after x bs y) o (gather_bytes x bs (completed c s))
        go none = refl
        go (some b) = refl

    -- the block's contents are the bytes that the read brings, those of others as they were
    bytes-own : (b : ℕ) → own ≡ some b → s₁.bytes b ≡ bytes_after own bs y b
    unfolding Completion.complete_read completed gather_bytes bytes_after
    bytes-own b e = go own e
      where
        go : (x : Option ℕ) → x ≡ some b → (gather_bytes x bs (completed c s)).bytes b ≡ bytes_after x bs y b
        go x e = rw e (put_same b bs s.bytes ∙ sym (put_same b bs y))

    bytes-other : (b : ℕ) → s.bytes b ≡ y b → s₁.bytes b ≡ bytes_after own bs y b
    unfolding Completion.complete_read completed gather_bytes bytes_after
    bytes-other b e = go own
      where
        go : (x : Option ℕ) → (gather_bytes x bs (completed c s)).bytes b ≡ bytes_after x bs y b
        go none = e
        go (some a) = by (ℕ_discrete b a)
          where
            by : Dec (b ≡ a) → put a bs s.bytes b ≡ put a bs y b
            by (yes z) = rw z (put_same a bs s.bytes ∙ sym (put_same a bs y))
            by (no z) = put_other a bs s.bytes b z ∙ e ∙ sym (put_other a bs y b z)

    read_known : (b ℓ i : ℕ) → b < s.shape.N → s.place b ≡ stored ℓ i → ¬ (s.mark (cell s.shape (s.partition b) ℓ i) ≡ 1) → ¬ Out (completed c s) (s.partition b) ℓ i → s₁.bytes b ≡ bytes_after own bs y b
    unfolding completed
    read_known b ℓ i hb e n u = go (dec_one (s.partition b) ℓ i c.partition c.level c.slot)
      where
        go : Dec (One (s.partition b) ℓ i c.partition c.level c.slot) → s₁.bytes b ≡ bytes_after own bs y b
        go (yes w) = bytes-own b (ap (λ p. Blocks.holder s p c.level c.slot) (sym w.0) ∙ place-holder s f b c.level c.slot hb (e ∙ rw (w.1, w.2)))
        go (no w) = bytes-other b (k.values.known b ℓ i hb e n (λ z. u (any-kept _ (is_command c) s.outstanding z other)))
          where
            other : (x : Command) → is_command (cmd read (s.partition b) ℓ i) x ≡ true → is_command c x ≡ true → ⊥
            other x p q =
                let a = (command-is (cmd read (s.partition b) ℓ i) x p).1 in
                let d = (command-is c x q).1 in
                w (a.0 ∙ sym d.0, a.1 ∙ sym d.1, a.2 ∙ sym d.2)

    -- what a read's bytes leave of a state
    gathered-same : (x : Option ℕ) → ((b : ℕ) → b < s.shape.N → Mem b s.waiting → (gather_bytes x bs (completed c s)).bytes b ≡ bytes_after x bs y b)
        → ((b ℓ i : ℕ) → b < s.shape.N → s.place b ≡ stored ℓ i → Target s (s.partition b) ℓ → (gather_bytes x bs (completed c s)).bytes b ≡ bytes_after x bs y b)
        → ((b ℓ i : ℕ) → b < s.shape.N → s.place b ≡ stored ℓ i → ¬ (s.mark (cell s.shape (s.partition b) ℓ i) ≡ 1) → ¬ Out (completed c s) (s.partition b) ℓ i → (gather_bytes x bs (completed c s)).bytes b ≡ bytes_after x bs y b)
        → Same (gather_bytes x bs (completed c s)) (bytes_after x bs y) o
    unfolding gather_bytes completed counted Live.drawn
    gathered-same none u v w = record { values = record { waiting = u; drawn = v; known = w }; orders = k.orders }
    gathered-same (some b) u v w = record { values = record { waiting = u; drawn = v; known = w }; orders = k.orders }

    read_same : Same s₁ (bytes_after own bs y) o
    unfolding Completion.complete_read
    read_same = gathered-same own (λ b hb m. bytes-other b (k.values.waiting b hb m)) (λ b ℓ i hb e z. bytes-other b (k.values.drawn b ℓ i hb e z)) read_known

  -- a write
  completed-same : ¬ (c.kind ≡ read) → Same (completed c s) y o
  unfolding completed counted Live.drawn
  completed-same n = record {
    values = record {
      waiting = k.values.waiting;
      drawn = k.values.drawn;
      known = λ b ℓ i hb e m u. k.values.known b ℓ i hb e m (λ z. u (any-kept _ (is_command c) s.outstanding z (λ x p q. n ((command-is c x q).0 ∙ sym (command-is (cmd read (s.partition b) ℓ i) x p).0))));
    };
    orders = k.orders;
  }

module _ (s : State) (f : Reached s) (y : ℕ → List ℕ) (o : ℕ → ℕ) (k : Same s y o) where
  finish-over : (l : List ℕ) → finish_job l (over y o s) ≡ over y o (finish_job l s)
  unfolding finish_job Completion.job_done end_job joined levels_of
  finish-over [] = refl
  finish-over (q ∷ l) = go (Completion.job_done s q)
    where
      go : (b : Bool) → (if b then end_job q (over y o s) else over y o s) ≡ over y o (if b then end_job q s else s)
      go true = refl
      go false = refl

  end_same : (q : ℕ) → counted (end_job q s) ≡ counted s → Same (end_job q s) y o
  unfolding end_job
  end_same q e = record {
    values = record { waiting = k.values.waiting; drawn = λ b ℓ i hb p z. absurd (z.1 refl); known = k.values.known };
    orders = λ p ℓ j hp hℓ z hj. k.orders p ℓ j hp hℓ (ap (λ (c : ℕ → ℕ). filled (c p) ℓ) (sym e) ∙ z) hj;
  }

  finish-same : (l : List ℕ) → s.queue ≡ l → Same (finish_job l s) y o
  unfolding finish_job
  finish-same [] e = k
  finish-same (q ∷ l) e = go (Completion.job_done s q) refl
    where
      go : (b : Bool) → Completion.job_done s q ≡ b → Same (if b then end_job q s else s) y o
      go true z = let w = done-why s f q l e z in end_same q (CompletionKept.counted-kept s f q l e w.1 w.2)
      go false z = k

-- both
pub complete-same : (s : State) → Reached s → (y : ℕ → List ℕ) (o : ℕ → ℕ) → Same s y o → (c : Command) (bs : List ℕ)
    → (y' : ℕ → List ℕ) × ((Completion.complete c bs (over y o s) ≡ over y' o (Completion.complete c bs s)) × Same (Completion.complete c bs s) y' o)
unfolding Completion.complete
complete-same s f y o k c bs = go (eqb c.kind read) refl
  where
    first : Reached (completed c s)
    first = completed-kept s f c (completed-in s f.range c)

    queue-same : (completed c s).queue ≡ s.queue
    queue-same = unfold completed in refl

    over-same : completed c (over y o s) ≡ over y o (completed c s)
    over-same = unfold completed in refl

    go : (b : Bool) → eqb c.kind read ≡ b
        → (y' : ℕ → List ℕ) × (((if b then Completion.complete_read c bs (over y o s) else Completion.complete_write c (over y o s)) ≡ over y' o (if b then Completion.complete_read c bs s else Completion.complete_write c s))
        × Same (if b then Completion.complete_read c bs s else Completion.complete_write c s) y' o)
    go true e = (bytes_after (Blocks.holder s c.partition c.level c.slot) bs y, (read-over s f y o k c bs, read_same s f y o k c bs))
    go false e =
        let k₁ = completed-same s f y o k c (eqb-false c.kind read e) in
        (y, unfold Completion.complete_write in (ap (finish_job s.queue) over-same ∙ finish-over (completed c s) first y o k₁ s.queue, finish-same (completed c s) first y o k₁ s.queue queue-same))

-- ---- A collect

module _ (s : State) (f : Reached s) (y : ℕ → List ℕ) (o : ℕ → ℕ) (k : Same s y o) (r : Request) (in_hand : s.request ≡ some r) (done : finished s r ≡ true) where
  abbrev b : ℕ
  b = r.block

  -- a finished request has its block's contents
  pub contents-same : Blocks.contents (over y o s) b ≡ Blocks.contents s b
  unfolding Blocks.contents Blocks.is_nowhere Blocks.zeros
  contents-same = go (s.place b) refl (Search.member b s.waiting) refl
    where
      hb : b < s.shape.N
      hb = block-lt s f r in_hand

      go : (x : Place) → s.place b ≡ x → (t : Bool) → Search.member b s.waiting ≡ t
          → (if Blocks.is_nowhere x && not t then Blocks.zeros s else y b) ≡ (if Blocks.is_nowhere x && not t then Blocks.zeros s else s.bytes b)
      go nowhere e true m = sym (k.values.waiting b hb (member-mem b s.waiting m))
      go nowhere e false m = refl
      go (stored ℓ i) e t m = sym (k.values.known b ℓ i hb e (λ z. omega (arith, z, finished-read s f r ℓ i in_hand done e))
          (λ z. let x = any-all (is_command (cmd read (s.partition b) ℓ i)) (finished-aside s f r in_hand done) z in
          let w = (command-is (cmd read (s.partition b) ℓ i) x.0 x.1.0).1 in
          (x.1.1 (sym w.0)).1 (e ∙ λ j. stored (w.1 j) (w.2 j))))

  abbrev pub given : List ℕ
  given = if eqb r.kind write then r.bytes else Blocks.contents s b

  abbrev c' : State
  c' = finish r s

  pub collect-over : finish r (over y o s) ≡ over (put b given y) o c'
  unfolding finish
  collect-over = ap (λ x. over (put b (if eqb r.kind write then r.bytes else x) y) o c') contents-same

  bytes-here : (x : ℕ) → x ≡ b → c'.bytes x ≡ put b given y x
  unfolding finish
  bytes-here x e = rw e (put_same b given s.bytes ∙ sym (put_same b given y))

  bytes-else : (x : ℕ) → ¬ (x ≡ b) → s.bytes x ≡ y x → c'.bytes x ≡ put b given y x
  unfolding finish
  bytes-else x n e = put_other b given s.bytes x n ∙ e ∙ sym (put_other b given y x n)

  target-was : (p ℓ : ℕ) → Target c' p ℓ → Target s p ℓ
  unfolding finish
  target-was p ℓ z = let x = f.begun z.1 in (sym (front-more s.queue (s.partition b ∷ r.evict ∷ []) p x.0 x.1 x.2.0) ∙ z.0, z.1, z.2)

  pub collect-same : Same c' (put b given y) o
  unfolding finish others
  collect-same = record {
    values = record {
      waiting = λ x hx m. waiting x hx m (ℕ_discrete x b);
      drawn = λ x ℓ i hx e z.
          let n = other_block s f r in_hand done x ℓ i e in
          let part = partition-other s f r in_hand done x n in
          bytes-else x n (k.values.drawn x ℓ i hx (sym (place_other s f r in_hand done x n) ∙ e) (target-was (s.partition x) ℓ (subst (λ p. Target c' p ℓ) part z)));
      known = λ x ℓ i hx e m u.
          let n = other_block s f r in_hand done x ℓ i e in
          let part = partition-other s f r in_hand done x n in
          bytes-else x n (k.values.known x ℓ i hx (sym (place_other s f r in_hand done x n) ∙ e) (subst (λ p. ¬ (s.mark (cell s.shape p ℓ i) ≡ 1)) part m) (subst (λ p. ¬ Out s p ℓ i) part u));
    };
    orders = λ q ℓ j hq hℓ e hj. k.orders q ℓ j hq hℓ (ap (λ (c : ℕ → ℕ). filled (c q) ℓ) (sym (CollectKept.counted-kept s f r in_hand done)) ∙ e) hj;
  }
    where
      waiting : (x : ℕ) → x < s.shape.N → Mem x (Search.keep (λ a. not (eqb a b)) s.waiting ++ (b ∷ [])) → Dec (x ≡ b) → c'.bytes x ≡ put b given y x
      waiting x hx m (yes e) = bytes-here x e
      waiting x hx m (no n) = bytes-else x n (k.values.waiting x hx (⊎_elim (λ z. keep-mem _ s.waiting x z) (λ z. ⊎_elim (λ v. absurd (n v)) (λ v. absurd v) z) (append-mem x (Search.keep (λ a. not (eqb a b)) s.waiting) (b ∷ []) m)))
