-- States that calls left never lack a dummy, and never gather more blocks than the written levels hold.
use Rattle.std.specs.Prelude.{◌≡◌, Bool, not, ◌&&◌, ◌||◌, List, [], ◌∷◌, ◌++◌, map, length, ltb}
use Rattle.std.proofs.Math.Path.{refl}
use Rattle.std.proofs.Common.{ap, sym, ◌∙◌, ⊎_elim, arith, length-append, pow_mono, eq-eqb, lt-ltb, le-leb, ltb-true}
use Rattle.std.proofs.Math.Bool.{true, false, true≢false}
use Rattle.std.proofs.Math.Option.{Option, none, some}
use Prim.Native.Nat.{ℕ, zero, suc, ◌+◌, ◌-◌, ◌^◌, ◌≤◌, ◌<◌, ◌%◌}
use Rattle.std.proofs.Math.Decide.{dec_lt}
use Rattle.lists.specs.All.{All, cons, find_none, any-all, below-below}
use Rattle.lists.specs.Distinct.{Mem}
use Rattle.lists.specs.Members.{all-mem, below-mem, dec_mem, nodup-le, nodup-sub, mem-member, map-mem, append_right, member-append}
use Rattle.lists.specs.Search
use Rattle.lists.specs.Search.{below, member}
use Rattle.lists.specs.Tests.{and_l, and_r, and-true, or_left, or_right}
use Rattle.lists.specs.Totals.{total-gap}
use Rattle.rules.specs.Blocks
use Rattle.rules.specs.Jobs.{joined, top_of, levels_of, capacity}
use Rattle.rules.proofs.Laws.Levels.{levels-pos}
use Rattle.rules.specs.Levels.{filled, is_full, top_level, written_levels}
use Rattle.rules.specs.Questions
use Rattle.rules.specs.Questions.{request, turn, possible, questions, first_no}
use Rattle.rules.specs.Ranges.{is_kind}
use Rattle.rules.specs.Rebuild.{gathered, chosen}
use Rattle.rules.specs.Reader
use Rattle.rules.specs.Laws.Reader.{slot_in, if_unread, slot_said}
use Rattle.rules.proofs.Laws.Reader.{costs-is, slot_read-is}
use Rattle.rules.specs.Request
use Rattle.rules.specs.Shape.{cell, slots}
use Rattle.rules.specs.State.{State, stored, Request}
use Rattle.rules.specs.Turn.{decide, Step, idle, no_dummy, read_for_request, read_for_job, rebuild, write_next}
use Rattle.reachable.proofs.Blocks.{in-why, is_below_lem, why-in, lt-below, why-at, in_is, nodup-in, nodup-gathered, gathered-lt, at-why, is-in, nodup-at, chosen-few}
use Rattle.reachable.proofs.Consequences.{block-lt, released-count, lowest-none, joins-front}
use Rattle.reachable.proofs.Decided.{Lacks, Decided, decided, costs-filled}
use Rattle.reachable.specs.Invariant.{taken, Reached, holds_of}
use Rattle.rules.specs.Form.Loading.{stored_at}
use Rattle.rules.proofs.Laws.Bits.{mod-filled, mod-empty}
use Rattle.rules.proofs.Laws.Grown.{written-holds}
use Rattle.reachable.specs.Live
use Rattle.rules.specs.Blocks.{reads_of}
use Rattle.reachable.specs.Live.{counted}
use Rattle.reachable.proofs.Live.{counted-calm}
use Rattle.reachable.proofs.Slots.{gathered-why, chosen-room, front-in}

taken_none : (n : ℕ) → taken n ≡ 0 → n ≡ 0
unfolding taken
taken_none zero e = refl
taken_none (suc n) e = absurd (omega arith)

pub named_none : (n : ℕ) → n ≡ 0 → Search.is_none (Blocks.named n) ≡ true
unfolding Blocks.named Search.is_none
named_none n e = rw e

else-none : (a b : Option ℕ) → Search.or_else a b ≡ none → b ≡ none
unfolding Search.or_else
else-none none b e = e
else-none (some x) b e = let z : ◌≡◌ {A = ℕ} 0 1 = cc in absurd (omega arith)

-- A request always finds a slot to read: in a source that costs, an unread item; in another level an unread dummy
never-lacks : (s : State) → Reached s → Lacks s → ⊥
unfolding reads_of holds_of slot_said
never-lacks s f k = go (Request.is_source s q ℓ) refl (rw k.cost at (sym (slot_read-is s q (s.place r.block) ℓ) ∙ k.none))
  where
    r : Request
    r = k.asked

    q : ℕ
    q = s.partition r.block

    ℓ : ℕ
    ℓ = k.level

    hq : q < s.shape.P
    hq = f.range.partitions r.block (block-lt s f r k.in_hand)

    full : filled (s.counter q) ℓ ≡ true
    full = costs-filled s q ℓ k.cost

    live : filled (counted s q) ℓ ≡ true
    live = ap (λ c. filled c ℓ) (released-count s f r k.in_hand k.unheld) ∙ full

    -- each slot is an item's
    item : (i : ℕ) → i < slots ℓ → Mem i (map (λ j. s.order (cell s.shape q ℓ j)) (below (slots ℓ)))
    item i hi =
        let o = f.orders.each q ℓ i hq k.top live hi in
        rw o.1.1 at (map-mem (λ j. s.order (cell s.shape q ℓ j)) o.0 (below (slots ℓ)) (below-mem (slots ℓ) o.0 o.1.0))

    found : Reader.dummy s q ℓ ≡ none → (i : ℕ) → i < slots ℓ → s.mark (cell s.shape q ℓ i) ≡ 1 → taken (s.holds (cell s.shape q ℓ i)) ≡ 0 → ⊥
    found n i hi hm ht =
        let a : All (λ j. (Blocks.is_unread s q ℓ j && Search.is_none (Blocks.holder s q ℓ j)) ≡ false) (map (λ j. s.order (cell s.shape q ℓ j)) (below (slots ℓ))) = unfold Reader.dummy in (find_none _ _ n) in
        let yes-i : (Blocks.is_unread s q ℓ i && Search.is_none (Blocks.holder s q ℓ i)) ≡ true = unfold Blocks.is_unread Blocks.holder in (and-true (eq-eqb _ 1 hm) (named_none _ (taken_none _ ht))) in
        true≢false (sym yes-i ∙ all-mem a i (item i hi))

    few : Request.is_source s q ℓ ≡ false → reads_of s.shape s.mark q ℓ < 2 ^ ℓ
    few u = f.unworn r k.in_hand k.unheld ℓ k.left k.top full u

    go : (t : Bool) → Request.is_source s q ℓ ≡ t
        → slot_said t (Blocks.is_unread s q ℓ) (Reader.dummy s q ℓ) (Reader.lowest s q ℓ) (s.place r.block) ℓ ≡ none → ⊥
    go true u e =
        let n : Reader.lowest s q ℓ ≡ none = else-none (if_unread (Blocks.is_unread s q ℓ) (slot_in ℓ (s.place r.block))) (Reader.lowest s q ℓ) e in
        let a : All (λ j. Blocks.is_unread s q ℓ j ≡ false) (map (λ j. s.order (cell s.shape q ℓ j)) (below (slots ℓ))) = lowest-none s q ℓ n in
        let some-open : Search.any (Blocks.is_unread s q ℓ) (below (slots ℓ)) ≡ true = cost-open u in
        let x = any-all (Blocks.is_unread s q ℓ) (below-below (slots ℓ)) some-open in
        true≢false (sym x.1.0 ∙ all-mem a x.0 (item x.0 x.1.1))
      where
        cost-open : Request.is_source s q ℓ ≡ true → Search.any (Blocks.is_unread s q ℓ) (below (slots ℓ)) ≡ true
        cost-open u = by (Request.is_source s q ℓ) (Search.any (Blocks.is_unread s q ℓ) (below (slots ℓ))) u (and_r (filled (s.counter q) ℓ) (not (Request.is_source s q ℓ) || Search.any (Blocks.is_unread s q ℓ) (below (slots ℓ))) (sym (costs-is s q ℓ) ∙ k.cost))
          where
            by : (a c : Bool) → a ≡ true → (not a || c) ≡ true → c ≡ true
            by true c w z = z
            by false c w z = absurd (true≢false (sym w))
    go false u e =
        let n : Reader.dummy s q ℓ ≡ none = else-none (slot_in ℓ (s.place r.block)) (Reader.dummy s q ℓ) e in
        let t = f.taken q ℓ hq k.top in
        let gap = total-gap (slots ℓ) (λ i. 1 - s.mark (cell s.shape q ℓ i)) (λ i. taken (s.holds (cell s.shape q ℓ i)))
        (omega (arith, few u, t, pow_mono {i = ℓ + 1} {j = suc ℓ} (omega arith), pow_mono {i = suc ℓ} {j = ℓ + 1} (omega arith))) in
        found n gap.0 gap.1.0 (omega (arith, gap.1.1, f.range.marks q ℓ gap.0 hq k.top gap.1.0)) gap.1.2

-- How many blocks the levels below n store
module _ (s : State) (f : Reached s) (q : ℕ) (hq : q < s.shape.P) where
  split-in : (n b : ℕ) → Mem b (Live.stored_in s q (suc n)) → Mem b (Live.stored_in s q n ++ stored_at s q n)
  split-in n b m =
      let y = in-why s q (suc n) b m in
      let x = is_below_lem (suc n) (s.place b) y.2 in
      go y x (dec_lt x.0 n)
    where
      go : (b < s.shape.N) × (s.partition b ≡ q) × (Live.is_below (suc n) (s.place b) ≡ true) → (x : (ℓ : ℕ) × (i : ℕ) × ((s.place b ≡ stored ℓ i) × (ℓ < suc n))) → Dec (x.0 < n) → Mem b (Live.stored_in s q n ++ stored_at s q n)
      go y x (yes l) = member-append b (Live.stored_in s q n) (stored_at s q n) (why-in s q n b y.0 y.1 (lt-below n x.0 x.1 (s.place b) x.2.0 l))
      go y x (no l) =
          let e : x.0 ≡ n = omega (arith, x.2.1) in
          append_right b (Live.stored_in s q n) (stored_at s q n) (why-at s q n b y.0 y.1 (in_is n x.1 (s.place b) (x.2.0 ∙ ap (λ k. stored k x.1) e)))

  -- a level that is not live stores nothing
  none-at : (n : ℕ) → filled (counted s q) n ≡ false → length (stored_at s q n) ≤ 0
  none-at n e = nodup-sub (stored_at s q n) [] (nodup-at s q n) (λ b m.
      let y = at-why s q n b m in
      let x = is-in n (s.place b) y.2 in
      true≢false (sym (f.agree.placed b n x.0 y.0 x.1).0 ∙ ap (λ p. filled (counted s p) n) y.1 ∙ e))

  -- the levels below n store no more than the counter says
  below-few : (n : ℕ) → length (Live.stored_in s q n) ≤ counted s q % 2 ^ n
  below-few zero = omega (arith, nodup-sub (Live.stored_in s q 0) [] (nodup-in s q 0) (λ b m. let x = is_below_lem 0 (s.place b) (in-why s q 0 b m).2 in omega (arith, x.2.1)))
  below-few (suc n) = go (filled (counted s q) n) refl (below-few n)
    where
      both : length (Live.stored_in s q (suc n)) ≤ length (Live.stored_in s q n) + length (stored_at s q n)
      both = omega (arith, length-append (Live.stored_in s q n) (stored_at s q n), nodup-sub (Live.stored_in s q (suc n)) (Live.stored_in s q n ++ stored_at s q n) (nodup-in s q (suc n)) (split-in n))

      go : (t : Bool) → filled (counted s q) n ≡ t → length (Live.stored_in s q n) ≤ counted s q % 2 ^ n → length (Live.stored_in s q (suc n)) ≤ counted s q % 2 ^ suc n
      go true e ih = omega (arith, both, f.room q n, mod-filled (counted s q) n e)
      go false e ih = omega (arith, both, none-at n e, mod-empty (counted s q) n e)

  -- The written levels hold the blocks that are gathered
  module _ (calm : s.sent ≡ 0) (rest : List ℕ) (front : s.queue ≡ q ∷ rest) where
    gathered-few : length (gathered s q) ≤ length (chosen s q) + length (Live.stored_in s q (suc (top_of s q)))
    gathered-few = omega (
      arith,
      length-append (chosen s q) (Live.stored_in s q (suc (top_of s q))),
      nodup-sub (gathered s q) (chosen s q ++ Live.stored_in s q (suc (top_of s q))) (nodup-gathered s q) (λ b m. ⊎_elim
          (λ k. member-append b (chosen s q) (Live.stored_in s q (suc (top_of s q))) k)
          (λ k. append_right b (chosen s q) (Live.stored_in s q (suc (top_of s q))) (why-in s q (suc (top_of s q)) b (gathered-lt s q b m) k.0 k.1)) (gathered-why s f q hq calm b m)),
    )

    pub never-many : length (gathered s q) ≤ capacity (levels_of s q)
    unfolding levels_of top_of
    never-many = go (is_full s.shape (s.counter q)) refl
      where
        holds : (is_full s.shape (s.counter q) ≡ true → 2 ^ (s.shape.L - 1) ≤ capacity (written_levels s.shape (s.counter q) (joined s q)))
            × (is_full s.shape (s.counter q) ≡ false → s.counter q % 2 ^ suc (top_level s.shape (s.counter q) (joined s q)) + joined s q ≤ capacity (written_levels s.shape (s.counter q) (joined s q)))
        holds = written-holds s.shape (s.counter q) (joined s q) (levels-pos s.shape f.range.shape) (f.range.counters q hq) (joins-front s f q rest front)

        all-levels : is_full s.shape (s.counter q) ≡ true → suc (top_level s.shape (s.counter q) (joined s q)) ≡ s.shape.L
        all-levels e = unfold top_level in (rw e (omega (arith, levels-pos s.shape f.range.shape)))

        go : (t : Bool) → is_full s.shape (s.counter q) ≡ t → length (gathered s q) ≤ capacity (written_levels s.shape (s.counter q) (joined s q))
        go true e = omega (arith, gathered-few, chosen-room s f q hq, ap (λ n. length (Live.stored_in s q n)) (all-levels e), holds.0 e)
        go false e = omega (arith, gathered-few, chosen-few s q, below-few (suc (top_level s.shape (s.counter q) (joined s q))), ap (λ c. c % 2 ^ suc (top_level s.shape (s.counter q) (joined s q))) (counted-calm s q calm), holds.1 e)

-- A step that a turn decides is possible
possible-step : (s : State) → Reached s → (x : Step) → Decided s x → possible s x ≡ true
unfolding possible
possible-step s f idle d = refl
possible-step s f no_dummy d = absurd (never-lacks s f d)
possible-step s f (read_for_request q ℓ i) d = refl
possible-step s f (read_for_job q ℓ i) d = refl
possible-step s f (rebuild q ls) d = rw d.goal (le-leb (length (gathered s q)) (capacity (levels_of s q)) (never-many s f q (front-in s f q d.rest d.front) d.calm d.rest d.front))
possible-step s f (write_next q t i) d = refl

pub always-possible : (s : State) → Reached s → possible s (decide s) ≡ true
always-possible s f = possible-step s f (decide s) (decided s)

-- Document 01: after all its questions a turn answers no 2. A 2 means that the memory is too short
last-two : (a b c d e : Bool) → first_no ((a, 2) ∷ (b, 9) ∷ (c, 10) ∷ (d, 15) ∷ (e, 3) ∷ (true, 2) ∷ []) ≡ 2 → a ≡ false
unfolding first_no
last-two false b c d e h = refl
last-two true false c d e h = absurd (omega arith)
last-two true true false d e h = absurd (omega arith)
last-two true true true false e h = absurd (omega arith)
last-two true true true true false h = absurd (omega arith)
last-two true true true true true h = absurd (omega arith)

pub late-two : (s : State) → Reached s → (m : ℕ) (ws : List ℕ) (k : ℕ) → first_no (questions s turn m ws k) ≡ 2 → Questions.ready s m ≡ false
unfolding questions
late-two s f m ws k e = last-two _ _ _ _ _ (rw (always-possible s f) at e)

-- Document 01: with E equal to N a request is never answered 8
pub room-or-waits : (s : State) → Reached s → s.shape.E ≡ s.shape.N → (b : ℕ) → b < s.shape.N → (ltb (length s.waiting) s.shape.E || member b s.waiting) ≡ true
room-or-waits s f e b hb = go (dec_mem b s.waiting)
  where
    go : Dec (Mem b s.waiting) → (ltb (length s.waiting) s.shape.E || member b s.waiting) ≡ true
    go (yes m) = or_right (ltb (length s.waiting) s.shape.E) (member b s.waiting) (mem-member b s.waiting m)
    go (no m) = or_left (ltb (length s.waiting) s.shape.E) (member b s.waiting)
        (lt-ltb (length s.waiting) s.shape.E (omega (arith, nodup-le s.shape.N (b ∷ s.waiting) (m, f.waiting.once) (cons hb f.range.waiting))))

eight : (a b c d e x y : Bool) → first_no ((a, 2) ∷ (b, 4) ∷ (c, 5) ∷ (d, 6) ∷ (e, 7) ∷ (x, 8) ∷ (y, 3) ∷ []) ≡ 8 → (a ≡ true) × (c ≡ true) × (x ≡ false)
unfolding first_no
eight false b c d e x y h = absurd (omega arith)
eight true false c d e x y h = absurd (omega arith)
eight true true false d e x y h = absurd (omega arith)
eight true true true false e x y h = absurd (omega arith)
eight true true true true false x y h = absurd (omega arith)
eight true true true true true false y h = (refl, refl, refl)
eight true true true true true true false h = absurd (omega arith)
eight true true true true true true true h = absurd (omega arith)

-- a request that is answered 8 was given a state in range
pub full-ready : (s : State) (j b : ℕ) (bs : List ℕ) (m : ℕ) (ws : List ℕ) (k : ℕ) → first_no (questions s (request j b bs) m ws k) ≡ 8 → Questions.ready s m ≡ true
unfolding questions
full-ready s j b bs m ws k h = and_l (Questions.ready s m) (is_kind j) (eight _ _ _ _ _ _ _ h).0

pub never-full : (s : State) → Reached s → s.shape.E ≡ s.shape.N → (j b : ℕ) (bs : List ℕ) (m : ℕ) (ws : List ℕ) (k : ℕ) → first_no (questions s (request j b bs) m ws k) ≡ 8 → ⊥
unfolding questions
never-full s f e j b bs m ws k h =
    let x = eight _ _ _ _ _ _ _ h in
    true≢false (sym (room-or-waits s f e b (ltb-true b s.shape.N x.1)) ∙ x.2)
