-- Which slot a turn reads: the first unread one of the sources, the lowest dummy item's, or in a source the lowest unread item's.
use Rattle.std.proofs.Math.Option.{get_or, none, some}
use Rattle.std.proofs.Math.Path.{◌≡◌, refl, ap, subst}
use Rattle.std.proofs.Common.{sym, ◌∙◌, inl, inr, ⊎_elim, true≢false, arith}
use Rattle.std.specs.Prelude.{◌⊎◌, Bool, ◌&&◌, List, ◌∷◌, eqb, if◌then◌else◌}
use Rattle.std.proofs.Math.Bool.{true, false}
use Prim.Native.Nat.{ℕ, ◌+◌, ◌≤◌, ◌<◌, suc}
use Rattle.std.proofs.Math.Decide.{dec_lt}
use Rattle.std.proofs.Math.Dec.{leb}
use borrow.Author.Tests.{eqb-true, eqb-false, ne_eqb, eq-eqb, leb-false}
use Rattle.lists.specs.All.{all_map, find-same}
use Rattle.lists.specs.Members.{find_first}
use Rattle.lists.specs.Search.{find, below, is_none}
use Rattle.lists.specs.Tests.{and_l, and_r, and-true}
use Rattle.rules.specs.Blocks
use Rattle.rules.proofs.Laws.Answers.{step-accepted, step-refused}
use Rattle.rules.proofs.Laws.Decided.{places-in}
use Rattle.rules.proofs.Laws.Layout.{offset-in}
use Rattle.rules.specs.Levels.{filled, top_level}
use Rattle.rules.specs.Questions.{Ask, opening, request, turn, completion, collect, save, load, Call, number}
use Rattle.rules.specs.Rebuild.{places, unread, next_unread}
use Rattle.rules.specs.Reader
use Rattle.rules.specs.Laws.Reader.{slot_in, if_unread}
use Rattle.rules.specs.Jobs.{joined, top_of}
use Rattle.rules.proofs.Laws.Levels.{levels-pos, top_lt}
use Rattle.rules.specs.Request
use Rattle.rules.specs.Run
use Rattle.rules.specs.Run.{step}
use Rattle.rules.specs.Shape.{cell, offset, slots}
use Rattle.rules.specs.State.{State, Command, cmd, read, Request}
use Rattle.rules.specs.Turn
use Rattle.rules.specs.Turn.{Step, idle, no_dummy, read_for_request, read_for_job, rebuild, write_next, decide, command}
use Rattle.reachable.proofs.Consequences.{block-lt, unread-mark, read-mark, reads-count, named-zero, spent}
use Rattle.reachable.proofs.Decided.{JobReads, OwnSlot, DummySlot, ItemSlot, RequestReads, decided, Decided, if-unread}
use Rattle.reachable.specs.Invariant.{Reached}
use Rattle.reachable.proofs.Live.{joined-begun, front-is, counted-calm}
use Rattle.reachable.proofs.Never.{named_none}
use Rattle.reachable.specs.Terms.{Numbered, LowestUnread}

module _ (s : State) (f : Reached s) where
  -- what the front job has gone over is read
  over-read : (q : ℕ) (rest : List ℕ) → s.queue ≡ q ∷ rest → s.sent ≡ 0 → (ℓ i : ℕ) → ℓ ≤ top_of s q → filled (s.counter q) ℓ ≡ true → i < slots ℓ → offset ℓ i < s.cursor → Blocks.is_unread s q ℓ i ≡ false
  unfolding Blocks.is_unread top_of
  over-read q rest e z ℓ i hℓ k hi l = ne_eqb (s.mark (cell s.shape q ℓ i)) 1 (λ w.
      let n : s.begun ≡ 0 → ⊥ = λ x. omega (arith, (f.unbegun x).0) in
      let u = f.scanned q ℓ i (rw e (front-is q rest)) z (n, subst (λ j. ℓ ≤ top_level s.shape (s.counter q) j) (joined-begun s f.running q (rw e (front-is q rest)) n) hℓ, k) hi l in
      omega arith)

  pub scan-all : (q : ℕ) (rest : List ℕ) → s.queue ≡ q ∷ rest → s.sent ≡ 0
      → unread s q ≡ find (λ p. filled (s.counter q) p.0 && Blocks.is_unread s q p.0 p.1) (places (suc (top_of s q)))
  unfolding unread next_unread
  scan-all q rest e z = find-same _ _ (all_map (λ p h. go p h (leb s.cursor (offset p.0 p.1)) (filled (s.counter q) p.0) refl refl) (places-in (suc (top_of s q))))
    where
      go : (p : ℕ × ℕ) → (p.0 < suc (top_of s q)) × (p.1 < slots p.0) → (t u : Bool) → leb s.cursor (offset p.0 p.1) ≡ t → filled (s.counter q) p.0 ≡ u
          → (leb s.cursor (offset p.0 p.1) && (filled (s.counter q) p.0 && Blocks.is_unread s q p.0 p.1)) ≡ (filled (s.counter q) p.0 && Blocks.is_unread s q p.0 p.1)
      go p h true u l k = rw l
      go p h false false l k = rw (l, k)
      go p h false true l k = rw (l, k) (sym (over-read q rest e z p.0 p.1 (omega (arith, h.0)) k h.1 (leb-false s.cursor (offset p.0 p.1) l)))

  pub lower-read : (q ℓ i : ℕ) → JobReads s q ℓ i → (m j : ℕ) → j < slots m → (m < ℓ) ⊎ ((m ≡ ℓ) × (j < i)) → Blocks.is_unread s q m j ≡ false
  unfolding offset
  lower-read q ℓ i d m j hj l = by (filled (s.counter q) m) refl
    where
      before : (m < ℓ) ⊎ ((m ≡ ℓ) × (j < i)) → (m ≤ top_of s q) × (offset m j < offset ℓ i)
      before (inl l) = (omega (arith, d.source), omega (arith, offset-in ℓ m j l hj))
      before (inr e) = (rw e.0 d.source, rw e.0 (omega (arith, e.1)))

      hm : m < s.shape.L
      hm = unfold top_of in (omega (arith, (before l).0, top_lt s.shape (s.counter q) (joined s q) (levels-pos s.shape f.range.shape)))

      go : filled (s.counter q) m ≡ true → Dec (offset m j < s.cursor) → Blocks.is_unread s q m j ≡ false
      go u (yes k) = over-read q d.rest d.front d.calm m j (before l).0 u hj k
      go u (no k) = d.next m j (before l).0 u hj (omega arith) (before l).1

      -- a level that is not filled has no unread slot
      by : (t : Bool) → filled (s.counter q) m ≡ t → Blocks.is_unread s q m j ≡ false
      by true u = go u (dec_lt (offset m j) s.cursor)
      by false u = unfold Blocks.is_unread in (ne_eqb (s.mark (cell s.shape q m j)) 1 (λ w. omega (arith, spent s f q m j hm (ap (λ c. filled c m) (counted-calm s q d.calm) ∙ u) hj, w)))

  pub lowest-dummy : (q ℓ i : ℕ) → RequestReads s q ℓ i → Request.is_source s q ℓ ≡ false → (r : Request) → s.request ≡ some r → slot_in ℓ (s.place r.block) ≡ none
      → (n : ℕ) × (Numbered s.shape s.order s.mark s.holds q ℓ n × LowestUnread s.shape s.order s.mark q ℓ n i)
  lowest-dummy q ℓ i d o r e u = (
    n.0,
    (
      n.1,
      record {
        item = k;
        from = late (dec_lt k n.0);
        in_level = omega (arith, x.1.1);
        slot = x.1.2;
        unread = rw x.1.2 at free.0;
        lower = λ j l m. passed j l m (omega (arith, x.1.1));
      },
    ),
  )
    where
      hq : q < s.shape.P
      hq = rw (← d.part) (f.range.partitions d.asked.block (block-lt s f d.asked d.in_hand))

      n : (n : ℕ) × Numbered s.shape s.order s.mark s.holds q ℓ n
      n = f.items q ℓ hq d.top (ap (λ c. filled c ℓ) (reads-count s f q ℓ i d) ∙ d.full)

      order : ℕ → ℕ
      order k = s.order (cell s.shape q ℓ k)

      test : ℕ → Bool
      test j = Blocks.is_unread s q ℓ j && is_none (Blocks.holder s q ℓ j)

      is-dummy : Reader.dummy s q ℓ ≡ some i
      is-dummy = ⊎_elim (λ z. let w : r ≡ d.asked = cc (e, d.in_hand) in absurd (let v : none ≡ some i = sym u ∙ ap (λ (y : Request). slot_in ℓ (s.place y.block)) w ∙ z.0 in let y : ◌≡◌ {A = ℕ} 0 1 = cc in omega arith)) (⊎_elim (λ z. z.2) (λ z. absurd (true≢false (sym z.0 ∙ o)))) d.slot

      x : (k : ℕ) × ((0 ≤ k) × (k < 0 + slots ℓ) × (order k ≡ i) × (test (order k) ≡ true) × ((j : ℕ) → 0 ≤ j → j < k → test (order j) ≡ false))
      x = find_first order test 0 (slots ℓ) i (unfold Reader.dummy below in is-dummy)

      k : ℕ
      k = x.0

      free : (s.mark (cell s.shape q ℓ (order k)) ≡ 1) × (s.holds (cell s.shape q ℓ (order k)) ≡ 0)
      free = unfold Blocks.is_unread Blocks.holder in (
        eqb-true (s.mark (cell s.shape q ℓ (order k))) 1 (and_l (Blocks.is_unread s q ℓ (order k)) (is_none (Blocks.holder s q ℓ (order k))) x.1.3),
        named-zero (s.holds (cell s.shape q ℓ (order k))) (and_r (Blocks.is_unread s q ℓ (order k)) (is_none (Blocks.holder s q ℓ (order k))) x.1.3),
      )

      free-is : (j : ℕ) → s.mark (cell s.shape q ℓ j) ≡ 1 → s.holds (cell s.shape q ℓ j) ≡ 0 → test j ≡ true
      free-is j w z = unfold Blocks.is_unread Blocks.holder in (and-true (eq-eqb _ 1 w) (named_none _ z))

      late : Dec (k < n.0) → n.0 ≤ k
      late (yes l) = absurd (omega (arith, n.1.blocks k l (omega (arith, x.1.1)) free.1, free.0))
      late (no l) = omega arith

      passed : (j : ℕ) → n.0 ≤ j → j < k → k < slots ℓ → s.mark (cell s.shape q ℓ (order j)) ≡ 0
      passed j l m hk =
          let z = n.1.dummies j l (omega arith) in
          let t : test (order j) ≡ false = x.1.4 j (omega arith) m in
          let y : s.mark (cell s.shape q ℓ (order j)) ≡ 1 → ⊥ = λ w. true≢false (sym (free-is (order j) w z) ∙ t) in
          omega (arith, f.range.marks q ℓ (order j) hq d.top (f.range.orders q ℓ j hq d.top (omega arith)))

  pub lowest-item : (q ℓ i : ℕ) → RequestReads s q ℓ i → Request.is_source s q ℓ ≡ true → (r : Request) → s.request ≡ some r → if_unread (Blocks.is_unread s q ℓ) (slot_in ℓ (s.place r.block)) ≡ none
      → LowestUnread s.shape s.order s.mark q ℓ 0 i
  lowest-item q ℓ i d o r e u = record {
    item = x.0;
    from = omega arith;
    in_level = omega (arith, x.1.1);
    slot = x.1.2;
    unread = rw x.1.2 at (unread-mark s q ℓ (order x.0) x.1.3);
    lower = λ j l m. passed j m (omega (arith, x.1.1));
  }
    where
      hq : q < s.shape.P
      hq = rw (← d.part) (f.range.partitions d.asked.block (block-lt s f d.asked d.in_hand))

      order : ℕ → ℕ
      order k = s.order (cell s.shape q ℓ k)

      same : r ≡ d.asked
      same = cc (e, d.in_hand)

      is-lowest : OwnSlot s d.asked.block q ℓ i ⊎ (DummySlot s d.asked.block q ℓ i ⊎ ItemSlot s d.asked.block q ℓ i) → Reader.lowest s q ℓ ≡ some i
      is-lowest (inl z) = absurd (⊎_elim (λ w. true≢false (sym o ∙ w)) (λ w. own-unread z w) z.1)
        where
          own-unread : OwnSlot s d.asked.block q ℓ i → Blocks.is_unread s q ℓ i ≡ true → ⊥
          own-unread z w =
              let v : if_unread (Blocks.is_unread s q ℓ) (some i) ≡ none = ap (if_unread (Blocks.is_unread s q ℓ)) (sym z.0) ∙ ap (λ (y : Request). if_unread (Blocks.is_unread s q ℓ) (slot_in ℓ (s.place y.block))) (sym same) ∙ u in
              let v' : some i ≡ none = sym (if-unread (Blocks.is_unread s q ℓ) i w) ∙ v in
              let y : ◌≡◌ {A = ℕ} 0 1 = cc in omega arith
      is-lowest (inr (inl z)) = absurd (true≢false (sym o ∙ z.0))
      is-lowest (inr (inr z)) = z.2

      x : (k : ℕ) × ((0 ≤ k) × (k < 0 + slots ℓ) × (order k ≡ i) × (Blocks.is_unread s q ℓ (order k) ≡ true) × ((j : ℕ) → 0 ≤ j → j < k → Blocks.is_unread s q ℓ (order j) ≡ false))
      x = find_first order (Blocks.is_unread s q ℓ) 0 (slots ℓ) i (unfold Reader.lowest below in (is-lowest d.slot))

      passed : (j : ℕ) → j < x.0 → x.0 < slots ℓ → s.mark (cell s.shape q ℓ (order j)) ≡ 0
      passed j m hk =
          let t : Blocks.is_unread s q ℓ (order j) ≡ false = x.1.4 j (omega arith) m in
          let y : s.mark (cell s.shape q ℓ (order j)) ≡ 1 → ⊥ = read-mark s q ℓ (order j) t in
          omega (arith, f.range.marks q ℓ (order j) hq d.top (f.range.orders q ℓ j hq d.top (omega arith)))

  -- a read is sent to a filled level
  pub decided-filled : (q ℓ i : ℕ) → command (decide s) ≡ cmd read q ℓ i → filled (s.counter q) ℓ ≡ true
  unfolding command
  decided-filled q ℓ i e = go (decide s) (decided s) e
    where
      go : (x : Step) → Decided s x → command x ≡ cmd read q ℓ i → filled (s.counter q) ℓ ≡ true
      go idle d e = absurd (omega (arith, ap (λ (c : Command). c.kind) e))
      go no_dummy d e = absurd (omega (arith, ap (λ (c : Command). c.kind) e))
      go (read_for_request p m j) d e = rw (← ap (λ (c : Command). c.partition) e, ← ap (λ (c : Command). c.level) e) d.full
      go (read_for_job p m j) d e = rw (← ap (λ (c : Command). c.partition) e, ← ap (λ (c : Command). c.level) e) d.full
      go (rebuild p ls) d e = absurd (let z : ◌≡◌ {A = ℕ} 2 1 = ap (λ (c : Command). c.kind) e in omega arith)
      go (write_next p t j) d e = absurd (let z : ◌≡◌ {A = ℕ} 2 1 = ap (λ (c : Command). c.kind) e in omega arith)

-- a call that reports a read is a turn that sends it
pub sent-turn : (s : State) (k : Call) (q ℓ i : ℕ) → (step s k).1.command ≡ cmd read q ℓ i → command (decide s) ≡ cmd read q ℓ i
sent-turn s k q ℓ i e = go (eqb (number s k) 0) refl
  where
    no_read : cmd 0 0 0 0 ≡ cmd read q ℓ i → ⊥
    no_read e = omega (arith, ap (λ (c : Command). c.kind) e)

    by : (a : Ask) → Run.sent_command s a ≡ cmd read q ℓ i → command (decide s) ≡ cmd read q ℓ i
    by (opening h) e = absurd (no_read (unfold Run.sent_command in e))
    by (request j b bs) e = absurd (no_read (unfold Run.sent_command in e))
    by turn e = unfold Run.sent_command in e
    by (completion c bs) e = absurd (no_read (unfold Run.sent_command in e))
    by collect e = absurd (no_read (unfold Run.sent_command in e))
    by save e = absurd (no_read (unfold Run.sent_command in e))
    by (load form) e = absurd (no_read (unfold Run.sent_command in e))

    go : (t : Bool) → eqb (number s k) 0 ≡ t → command (decide s) ≡ cmd read q ℓ i
    go true z = by k.ask (unfold Run.accepted in (rw (step-accepted s k (eqb-true (number s k) 0 z)) at e))
    go false z = absurd (no_read (unfold Run.refused in (rw (step-refused s k (eqb-false (number s k) 0 z)) at e)))

-- a request that isn't held and has a level left is read for
pub request-decides : (s : State) (r : Request) → s.request ≡ some r → Request.held r ≡ false → (ℓ : ℕ) (ls : List ℕ) → Reader.levels_left s r ≡ ℓ ∷ ls
    → decide s ≡ Turn.read_step (s.partition r.block) ℓ (Reader.slot_read s (s.partition r.block) (s.place r.block) ℓ)
unfolding decide Turn.request_step Turn.first_read
request-decides s r e u ℓ ls v =
    ap (λ o. get_or (Turn.request_step s o) (Turn.job_step s s.queue)) e
    ∙ ap (λ t. get_or (if t then none else Turn.first_read q (Reader.slot_read s q (s.place r.block)) (Reader.levels_left s r)) (Turn.job_step s s.queue)) u
    ∙ ap (λ l. get_or (Turn.first_read q (Reader.slot_read s q (s.place r.block)) l) (Turn.job_step s s.queue)) v
  where
    q : ℕ
    q = s.partition r.block
