-- What follows from the invariant, for the steps that keep it and for the crates above.
use Rattle.std.specs.Prelude.{◌≡◌, ◌⊎◌, false, not, ◌&&◌, ◌||◌, Bool, take, if◌then◌else◌}
use Rattle.std.proofs.Math.Path.{refl, ap}
use Rattle.std.proofs.Common.{sym, ◌∙◌, subst, ⊎_elim, inl, inr, true≢false, arith, take-append-drop}
use Rattle.std.proofs.Math.Bool.{true}
use mathlib.Core.List.{List, [], ◌∷◌, map}
use Rattle.std.proofs.Math.Option.{Option, none, some}
use Prim.Native.Nat.{ℕ, zero, suc, ◌+◌, ◌-◌, ◌≤◌, ◌<◌}
use Rattle.std.proofs.Math.Decide.{dec_lt, ℕ_discrete}
use Rattle.std.proofs.Math.Dec.{eqb}
use Rattle.std.proofs.Math.ListN.{length}
use Rattle.std.proofs.Math.Pow.{pow_pos}
use borrow.Author.Tests.{eqb-true, not-true, eqb-false, eq-eqb}
use Rattle.lists.specs.All
use Rattle.lists.specs.All.{All, IfSome, all_map, all_append, any_none}
use Rattle.lists.specs.Distinct.{Mem}
use Rattle.lists.specs.Members.{kept-none, all-mem, below-mem}
use Rattle.lists.specs.Search
use Rattle.lists.specs.Search.{below, find, any}
use Rattle.lists.specs.Tables.{put, put_has}
use Rattle.lists.specs.Tests.{and_l, and_r}
use Rattle.rules.specs.Blocks
use Rattle.rules.specs.Collect
use Rattle.rules.specs.Completion
use Rattle.rules.specs.Jobs.{queued, begun_with, joined, top_of, levels_of, slot_count, write_at}
use Rattle.rules.proofs.Laws.Rebuilt.{front-joins}
use Rattle.rules.specs.Laws.Levels.{Joins}
use Rattle.rules.proofs.Laws.Levels.{begun-some, levels-pos, top_lt, joins-le, queued-front}
use Rattle.rules.specs.Laws.Range.{RequestIn}
use Rattle.rules.specs.Levels.{filled, joins, top_level, written_levels}
use Rattle.rules.specs.Reader
use Rattle.rules.proofs.Laws.Layout.{cell-inj}
use Rattle.rules.specs.Laws.Reader.{slot_in}
use Rattle.rules.proofs.Laws.Reader.{costs-is}
use Rattle.rules.specs.Request
use Rattle.rules.specs.Shape.{cell, slots, offset}
use Rattle.rules.specs.State.{State, Command, stored, Request, cmd, read, write, Place, nowhere}
use Rattle.reachable.proofs.Blocks.{place-lt}
use Rattle.rules.specs.Request.{is_front}
use Rattle.rules.proofs.Laws.Grown.{nodup-written, written-first}
use Rattle.reachable.proofs.Decided.{Rebuilds, OwnSlot, RequestReads, JobReads, Writes}
use Rattle.reachable.specs.Invariant.{Reached, Reading, Own, Items, Writing, Aside}
use Rattle.reachable.specs.Live.{passed_by, counted, Gathers, Target, Wrote, write_number}
use Rattle.reachable.proofs.Live.{front-mem, counted-other, counted-calm, not-front, front-is, front-eq, joined-begun, gathers-source}
use Rattle.reachable.proofs.Writes.{write-at, number_lt, number-one}
use Rattle.reachable.proofs.Pending.{passed_none, passed-why}
use Rattle.reachable.specs.Terms.{One, Elsewhere}

pub slot-own : (ℓ i : ℕ) (x : Place) → slot_in ℓ x ≡ some i → x ≡ stored ℓ i
unfolding slot_in
slot-own ℓ i nowhere e = let z : ◌≡◌ {A = ℕ} 0 1 = cc in absurd (omega arith)
slot-own ℓ i (stored m j) e = go (eqb m ℓ) refl e
  where
    go : (t : Bool) → eqb m ℓ ≡ t → (if t then some j else none) ≡ some i → stored m j ≡ stored ℓ i
    go true k e = let w : j ≡ i = cc in let v : m ≡ ℓ = eqb-true m ℓ k in rw (w, v)
    go false k e = let z : ◌≡◌ {A = ℕ} 0 1 = cc in absurd (omega arith)

pub own-slot : (ℓ i : ℕ) → slot_in ℓ (stored ℓ i) ≡ none → ⊥
unfolding slot_in
own-slot ℓ i e = let e' : some i ≡ none = rw (eq-eqb ℓ ℓ refl) at e in let z : ◌≡◌ {A = ℕ} 0 1 = cc in omega arith

pub named-zero : (n : ℕ) → Search.is_none (Blocks.named n) ≡ true → n ≡ 0
unfolding Blocks.named Search.is_none
named-zero zero e = refl
named-zero (suc n) e = absurd (true≢false (sym e))

pub unread-mark : (s : State) (q ℓ i : ℕ) → Blocks.is_unread s q ℓ i ≡ true → s.mark (cell s.shape q ℓ i) ≡ 1
unfolding Blocks.is_unread
unread-mark s q ℓ i e = eqb-true (s.mark (cell s.shape q ℓ i)) 1 e

pub read-mark : (s : State) (q ℓ i : ℕ) → Blocks.is_unread s q ℓ i ≡ false → s.mark (cell s.shape q ℓ i) ≡ 1 → ⊥
unfolding Blocks.is_unread
read-mark s q ℓ i e = eqb-false (s.mark (cell s.shape q ℓ i)) 1 e

-- no item is unread
pub lowest-none : (s : State) (q ℓ : ℕ) → Reader.lowest s q ℓ ≡ none → All (λ j. Blocks.is_unread s q ℓ j ≡ false) (map (λ j. s.order (cell s.shape q ℓ j)) (below (slots ℓ)))
unfolding Reader.lowest
lowest-none s q ℓ e = All.find_none _ _ e

pub dummy-free : (s : State) (q ℓ i : ℕ) → Reader.dummy s q ℓ ≡ some i → (s.mark (cell s.shape q ℓ i) ≡ 1) × (s.holds (cell s.shape q ℓ i) ≡ 0)
unfolding Reader.dummy Blocks.is_unread Blocks.holder
dummy-free s q ℓ i e = go (find test slots_of) e (All.find-passes test slots_of)
  where
    test : ℕ → Bool
    test j = eqb (s.mark (cell s.shape q ℓ j)) 1 && Search.is_none (Blocks.named (s.holds (cell s.shape q ℓ j)))

    slots_of : List ℕ
    slots_of = map (λ k. s.order (cell s.shape q ℓ k)) (below (slots ℓ))

    go : (o : Option ℕ) → o ≡ some i → IfSome (λ x. test x ≡ true) o → (s.mark (cell s.shape q ℓ i) ≡ 1) × (s.holds (cell s.shape q ℓ i) ≡ 0)
    go o k h =
        let h' : test i ≡ true = rw k at h in (
          eqb-true (s.mark (cell s.shape q ℓ i)) 1 (and_l (eqb (s.mark (cell s.shape q ℓ i)) 1) (Search.is_none (Blocks.named (s.holds (cell s.shape q ℓ i)))) h'),
          named-zero (s.holds (cell s.shape q ℓ i)) (and_r (eqb (s.mark (cell s.shape q ℓ i)) 1) (Search.is_none (Blocks.named (s.holds (cell s.shape q ℓ i)))) h'),
        )

pub lowest-unread : (s : State) (q ℓ i : ℕ) → Reader.lowest s q ℓ ≡ some i → s.mark (cell s.shape q ℓ i) ≡ 1
unfolding Reader.lowest Blocks.is_unread
lowest-unread s q ℓ i e = go (find test slots_of) e (All.find-passes test slots_of)
  where
    test : ℕ → Bool
    test j = eqb (s.mark (cell s.shape q ℓ j)) 1

    slots_of : List ℕ
    slots_of = map (λ k. s.order (cell s.shape q ℓ k)) (below (slots ℓ))

    go : (o : Option ℕ) → o ≡ some i → IfSome (λ x. test x ≡ true) o → s.mark (cell s.shape q ℓ i) ≡ 1
    go o k h = let h' : test i ≡ true = rw k at h in eqb-true (s.mark (cell s.shape q ℓ i)) 1 h'

pub block-lt : (s : State) → Reached s → (r : Request) → s.request ≡ some r → r.block < s.shape.N
block-lt s f r e = go s.request e f.range.request
  where
    go : (o : Option Request) → o ≡ some r → IfSome (RequestIn s.shape) o → r.block < s.shape.N
    go o e k = let k' : RequestIn s.shape r = rw e at k in k'.block

pub named-is : (n b : ℕ) → Blocks.named n ≡ some b → n ≡ suc b
unfolding Blocks.named
named-is zero b e = let z : ◌≡◌ {A = ℕ} 0 1 = cc in absurd (omega arith)
named-is (suc n) b e = let w : n ≡ b = cc in ap suc w

module _ (s : State) (f : Reached s) where
  -- A block has its place where a slot holds it
  pub holder-place : (q ℓ i b : ℕ) → q < s.shape.P → ℓ < s.shape.L → i < slots ℓ → Blocks.holder s q ℓ i ≡ some b → (s.partition b ≡ q) × (s.place b ≡ stored ℓ i)
  unfolding Blocks.holder
  holder-place q ℓ i b hq hℓ hi k = f.agree.held q ℓ i b hq hℓ hi (named-is (s.holds (cell s.shape q ℓ i)) b k)

  pub place-holder : (b ℓ i : ℕ) → b < s.shape.N → s.place b ≡ stored ℓ i → Blocks.holder s (s.partition b) ℓ i ≡ some b
  unfolding Blocks.holder Blocks.named
  place-holder b ℓ i hb e = ap Blocks.named (f.agree.placed b ℓ i hb e).1

  -- The front job of the partition of a request that is not held is not drawn
  pub released-calm : (r : Request) → s.request ≡ some r → Request.held r ≡ false → is_front s.queue (s.partition r.block) ≡ true → s.sent ≡ 0
  released-calm r e u k = ⊎_elim (λ n. absurd (n (front-mem s.queue (s.partition r.block) k))) (λ a. a.2) (f.released r e u)

  pub released-count : (r : Request) → s.request ≡ some r → Request.held r ≡ false → counted s (s.partition r.block) ≡ s.counter (s.partition r.block)
  released-count r e u = ⊎_elim (λ n. counted-other s (s.partition r.block) (not-front s.queue (s.partition r.block) n)) (λ a. counted-calm s (s.partition r.block) a.2) (f.released r e u)

  -- beside a drawn job, an outstanding read is of another partition
  pub reading-away : (c : Command) → Reading s c → (s.sent ≡ 0 → ⊥) → ¬ (is_front s.queue c.partition ≡ true)
  reading-away c a busy e = ⊎_elim (λ k. go s.request refl k) (λ k. busy k.1) a.whose
    where
      go : (o : Option Request) → s.request ≡ o → passed_by s.partition o c.partition c.level ≡ true → ⊥
      go none z k = true≢false (sym k ∙ passed_none s.partition none c.partition c.level refl)
      go (some r) z k =
          let y = passed-why s.partition (some r) r c.partition c.level refl k in
          ⊎_elim (λ w. omega (arith, y.1, w)) (λ w. busy (released-calm r z w (rw y.0 e))) (f.unheld r z)

  -- a filled level that costs nothing has been read throughout
  pub costless-read : (q ℓ j : ℕ) → q < s.shape.P → ℓ < s.shape.L → j < slots ℓ → filled (s.counter q) ℓ ≡ true → Reader.costs s q ℓ ≡ false → s.mark (cell s.shape q ℓ j) ≡ 0
  costless-read q ℓ j hq hℓ hj full e = go (Blocks.is_unread s q ℓ j) refl
    where
      none : Search.any (Blocks.is_unread s q ℓ) (below (slots ℓ)) ≡ false
      none = by (filled (s.counter q) ℓ) (not (Request.is_source s q ℓ)) (Search.any (Blocks.is_unread s q ℓ) (below (slots ℓ))) full (sym (costs-is s q ℓ) ∙ e)
        where
          by : (a b c : Bool) → a ≡ true → (a && (b || c)) ≡ false → c ≡ false
          by true true c w z = absurd (true≢false z)
          by true false c w z = z
          by false b c w z = absurd (true≢false (sym w))

      go : (t : Bool) → Blocks.is_unread s q ℓ j ≡ t → s.mark (cell s.shape q ℓ j) ≡ 0
      go true u = absurd (true≢false (sym u ∙ all-mem (any_none (Blocks.is_unread s q ℓ) (below (slots ℓ)) none) j (below-mem (slots ℓ) j hj)))
      go false u =
          let w = read-mark s q ℓ j u in
          omega (arith, f.range.marks q ℓ j hq hℓ hj)

  -- A request that is not held and has no level left has read its block's slot, or the job has
  pub behind-read : (r : Request) (ℓ i : ℕ) → s.request ≡ some r → Request.held r ≡ false → Reader.levels_left s r ≡ [] → s.place r.block ≡ stored ℓ i → s.mark (cell s.shape (s.partition r.block) ℓ i) ≡ 0
  unfolding Reader.levels_left
  behind-read r ℓ i e u left p = go (dec_lt ℓ r.level)
    where
      q : ℕ
      q = s.partition r.block

      hb : r.block < s.shape.N
      hb = block-lt s f r e

      top : (ℓ < s.shape.L) × (i < slots ℓ)
      top = place-lt s.shape.L ℓ i (s.place r.block) (f.range.places r.block hb) p

      full : filled (s.counter q) ℓ ≡ true
      full = ap (λ n. filled n ℓ) (sym (released-count r e u)) ∙ (f.agree.placed r.block ℓ i hb p).0

      go : Dec (ℓ < r.level) → s.mark (cell s.shape q ℓ i) ≡ 0
      go (yes l) = f.fetched r ℓ i e p l
      go (no l) = costless-read q ℓ i (f.range.partitions r.block hb) top.0 top.1 full
          (kept-none (Reader.costs s q) r.level (s.shape.L - r.level) ℓ (ap length left) (omega arith) (omega (arith, top.0)))

  -- A finished request: it is not held, has no level left, and its block's slot has been read, by it or for the job
  pub finished-unheld : (r : Request) → Collect.finished s r ≡ true → Request.held r ≡ false
  unfolding Collect.finished
  finished-unheld r done = not-true (Request.held r) (and_l (not (Request.held r)) (eqb (length (Reader.levels_left s r)) 0) (and_l (not (Request.held r) && eqb (length (Reader.levels_left s r)) 0) _ done))

  pub finished-left : (r : Request) → Collect.finished s r ≡ true → Reader.levels_left s r ≡ []
  unfolding Collect.finished
  finished-left r done = nil-of (Reader.levels_left s r) (eqb-true (length (Reader.levels_left s r)) 0 (and_r (not (Request.held r)) (eqb (length (Reader.levels_left s r)) 0) (and_l (not (Request.held r) && eqb (length (Reader.levels_left s r)) 0) _ done)))
    where
      nil-of : (l : List ℕ) → length l ≡ 0 → l ≡ []
      nil-of [] e = refl
      nil-of (x ∷ xs) e = absurd (omega arith)

  pub finished-read : (r : Request) (ℓ i : ℕ) → s.request ≡ some r → Collect.finished s r ≡ true → s.place r.block ≡ stored ℓ i → s.mark (cell s.shape (s.partition r.block) ℓ i) ≡ 0
  finished-read r ℓ i e done p = behind-read r ℓ i e (finished-unheld r done) (finished-left r done) p

  -- ..and what is outstanding of its partition is of a level that the job gathers, and not of its block's slot
  pub finished-aside : (r : Request) → s.request ≡ some r → Collect.finished s r ≡ true → All (Aside s r) s.outstanding
  unfolding Collect.finished
  finished-aside r e done = rw (take-append-drop r.awaits s.outstanding) at (all_append awaited (f.unawaited r e (finished-unheld r done)))
    where
      awaited : All (Aside s r) (take r.awaits s.outstanding)
      awaited = all_map (λ (c : Command) k w. absurd (eqb-false c.partition (s.partition r.block) k w)) (any_none _ (take r.awaits s.outstanding) (not-true (any (λ (c : Command). eqb c.partition (s.partition r.block)) (take r.awaits s.outstanding))
          (and_r (not (Request.held r) && eqb (length (Reader.levels_left s r)) 0) (not (any (λ (c : Command). eqb c.partition (s.partition r.block)) (take r.awaits s.outstanding))) done)))

  -- A job with writes sent has begun
  pub busy-begun : (s.sent ≡ 0 → ⊥) → s.begun ≡ 0 → ⊥
  busy-begun n e = n (f.unbegun e).1

  -- A level that is not live has no unread slot
  pub spent : (q ℓ i : ℕ) → ℓ < s.shape.L → filled (counted s q) ℓ ≡ false → i < slots ℓ → s.mark (cell s.shape q ℓ i) ≡ 0
  spent q ℓ i hℓ e hi = go (ℕ_discrete (s.mark (cell s.shape q ℓ i)) 0)
    where
      go : Dec (s.mark (cell s.shape q ℓ i) ≡ 0) → s.mark (cell s.shape q ℓ i) ≡ 0
      go (yes z) = z
      go (no z) =
          let c = f.tidy.marked (cell s.shape q ℓ i) z in
          let w = cell-inj s.shape q c.part ℓ c.level i c.slot hℓ c.in_levels hi c.in_slots c.is_cell in
          absurd (true≢false (sym c.is_filled ∙ ap (λ n. filled n c.level) (ap (counted s) (sym w.0)) ∙ ap (filled (counted s q)) (sym w.1) ∙ e))

  -- The jobs of the front one's run are at least one, no more than may join, and at most those queued
  pub joins-front : (q : ℕ) (rest : List ℕ) → s.queue ≡ q ∷ rest → Joins s.shape (s.counter q) (joined s q)
  joins-front q rest e = front-joins s f.range q rest e

  pub joined-joins : (q : ℕ) (rest : List ℕ) → s.queue ≡ q ∷ rest → joined s q ≤ joins s.shape (s.counter q) (queued s.queue q)
  joined-joins q rest e = go (ℕ_discrete s.begun 0)
    where
      go : Dec (s.begun ≡ 0) → joined s q ≤ joins s.shape (s.counter q) (queued s.queue q)
      go (yes z) = unfold joined in (rw z (unfold begun_with in (omega arith)))
      go (no n) =
          let x = f.running n in
          let w : x.0 ≡ q = cc (x.2.0, e) in
          rw (joined-begun s f.running q (rw e (front-is q rest)) n) (subst (λ p. s.begun ≤ joins s.shape (s.counter p) (queued s.queue p)) w x.2.1)

  pub joined-queued : (q : ℕ) (rest : List ℕ) → s.queue ≡ q ∷ rest → joined s q ≤ queued s.queue q
  joined-queued q rest e = omega (arith, joined-joins q rest e, joins-le s.shape (s.counter q) (queued s.queue q) (rw e (queued-front q rest)))

  -- ..and before it begins, as many as count as one for look-ups
  pub joined-least : (q : ℕ) (rest : List ℕ) → s.queue ≡ q ∷ rest → begun_with s.begun 1 ≤ joined s q
  joined-least q rest e = go (ℕ_discrete s.begun 0)
    where
      go : Dec (s.begun ≡ 0) → begun_with s.begun 1 ≤ joined s q
      go (yes z) = subst (λ b. begun_with b 1 ≤ joined s q) (sym z) (unfold begun_with in (joins-front q rest e).0)
      go (no n) = omega (arith, joined-begun s f.running q (rw e (front-is q rest)) n, begun-some s.begun 1 (omega (arith, n)))

  -- The first of its written levels is t
  pub levels-first : (q : ℕ) (rest : List ℕ) → s.queue ≡ q ∷ rest → (ls : List ℕ) × (levels_of s q ≡ top_of s q ∷ ls)
  unfolding levels_of top_of
  levels-first q rest e = written-first s.shape (s.counter q) (joined s q) (levels-pos s.shape f.range.shape) (f.range.counters q (all-mem f.range.queue q (rw e (inl refl)))) (joins-front q rest e)

  -- A job that is done has sent all its writes, and none is outstanding
  pub done-why : (q : ℕ) (rest : List ℕ) → s.queue ≡ q ∷ rest → Completion.job_done s q ≡ true
      → (s.sent ≡ slot_count (levels_of s q)) × (s.sent ≡ 0 → ⊥) × All (λ (c : Command). eqb c.kind write ≡ false) s.outstanding
  unfolding Completion.job_done
  done-why q rest e k =
      let a = eqb-true s.sent (slot_count (levels_of s q)) (and_l (eqb s.sent (slot_count (levels_of s q))) (not (any (λ (c : Command). eqb c.kind write) s.outstanding)) k) in
      let b = and_r (eqb s.sent (slot_count (levels_of s q))) (not (any (λ (c : Command). eqb c.kind write) s.outstanding)) k in
      let n : 0 < slot_count (levels_of s q) = rw (levels-first q rest e).1 (unfold slot_count in (omega (arith, pow_pos (top_of s q + 1)))) in
      (a, (λ z. omega arith), any_none (λ (c : Command). eqb c.kind write) s.outstanding (not-true (any (λ (c : Command). eqb c.kind write) s.outstanding) b))

  -- The next write is that of its number
  pub next-write : (q t i : ℕ) → Writes s q t i → Mem t (written_levels s.shape (s.counter q) s.begun) × (i < slots t) × (write_number (written_levels s.shape (s.counter q) s.begun) t i ≡ s.sent)
  unfolding levels_of
  next-write q t i d = write-at (written_levels s.shape (s.counter q) s.begun) s.sent t i (nodup-written s.shape (s.counter q) s.begun)
      (ap (λ j. write_at (written_levels s.shape (s.counter q) j) s.sent) (sym (joined-begun s f.running q (rw d.front (front-is q d.rest)) (busy-begun d.busy))) ∙ d.now)

  -- Once all its writes are sent, that of each slot of its written levels is
  pub all-written : (q ℓ i : ℕ) → Target s q ℓ → i < slots ℓ → slot_count (levels_of s q) ≡ s.sent → Wrote s q ℓ i
  unfolding levels_of
  all-written q ℓ i z hi e =
      let w : slot_count (written_levels s.shape (s.counter q) s.begun) ≡ s.sent = ap (λ n. slot_count (written_levels s.shape (s.counter q) n)) (sym (joined-begun s f.running q z.0 (busy-begun z.1))) ∙ e in
      omega (arith, number_lt (written_levels s.shape (s.counter q) s.begun) ℓ i z.2 hi)

  -- A slot whose write is the next one, or was sent before: it is that of the next write, or was sent before
  pub wrote-before : (q t i : ℕ) → Writes s q t i → (p m j : ℕ) → Target s p m → j < slots m → write_number (written_levels s.shape (s.counter p) s.begun) m j < suc s.sent → ¬ One p m j q t i → Wrote s p m j
  wrote-before q t i d p m j x hj l n = by (ℕ_discrete (write_number (written_levels s.shape (s.counter p) s.begun) m j) s.sent)
    where
      by : Dec (write_number (written_levels s.shape (s.counter p) s.begun) m j ≡ s.sent) → Wrote s p m j
      by (no k) = omega arith
      by (yes k) =
          let a = front-eq p q s.queue d.rest d.front x.0 in
          let y = next-write q t i d in
          let e : write_number (written_levels s.shape (s.counter q) s.begun) m j ≡ s.sent = subst (λ r. write_number (written_levels s.shape (s.counter r) s.begun) m j ≡ s.sent) a k in
          let w : Mem m (written_levels s.shape (s.counter q) s.begun) = subst (λ r. Mem m (written_levels s.shape (s.counter r) s.begun)) a x.2 in
          let o = number-one (written_levels s.shape (s.counter q) s.begun) m j t i w y.0 hj y.1 (e ∙ sym y.2) in
          absurd (n (a, o.0, o.1))

  -- When the orders are drawn, every slot of the sources is read
  pub sources-read : (q : ℕ) (ls : List ℕ) → Rebuilds s q ls → (ℓ i : ℕ) → ℓ ≤ top_of s q → filled (s.counter q) ℓ ≡ true → i < slots ℓ → s.mark (cell s.shape q ℓ i) ≡ 0
  unfolding Blocks.is_unread top_of
  sources-read q ls d ℓ i l k hi = go (dec_lt (offset ℓ i) s.cursor) (ℕ_discrete s.begun 0)
    where
      front : is_front s.queue q ≡ true
      front = rw d.front (front-is q d.rest)

      go : Dec (offset ℓ i < s.cursor) → Dec (s.begun ≡ 0) → s.mark (cell s.shape q ℓ i) ≡ 0
      go (yes c) (yes z) = absurd (omega (arith, (f.unbegun z).0))
      go (yes c) (no z) = f.scanned q ℓ i front d.calm (z, subst (λ j. ℓ ≤ top_level s.shape (s.counter q) j) (joined-begun s f.running q front z) l, k) hi c
      go (no c) z =
          let u : s.mark (cell s.shape q ℓ i) ≡ 1 → ⊥ = eqb-false (s.mark (cell s.shape q ℓ i)) 1 (d.read ℓ i l k hi (omega arith)) in
          omega (arith, f.range.marks q ℓ i (all-mem f.range.queue q (front-mem s.queue q front)) (omega (arith, top_lt s.shape (s.counter q) (joined s q) (levels-pos s.shape f.range.shape))) hi)

  -- A request's read: the front job, if it is for its partition, is not drawn, and its slot is unread
  module _ (q ℓ i : ℕ) (d : RequestReads s q ℓ i) where
    pub front-calm : is_front s.queue q ≡ true → s.sent ≡ 0
    front-calm k = released-calm d.asked d.in_hand d.unheld (rw d.part k)

    pub reads-count : counted s q ≡ s.counter q
    reads-count = ap (counted s) (sym d.part) ∙ released-count d.asked d.in_hand d.unheld ∙ ap s.counter d.part

    pub request-unread : s.mark (cell s.shape q ℓ i) ≡ 1
    request-unread = ⊎_elim own (⊎_elim (λ k. (dummy-free s q ℓ i k.2).0) (λ k. lowest-unread s q ℓ i k.2)) d.slot
      where
        kept : (s.mark (cell s.shape (s.partition d.asked.block) ℓ i) ≡ 1) ⊎ (Own s d.asked.block ℓ ⊎ Gathers s (s.partition d.asked.block) ℓ) → Request.is_source s q ℓ ≡ false → s.mark (cell s.shape q ℓ i) ≡ 1
        kept (inl m) u = ap (λ p. s.mark (cell s.shape p ℓ i)) (sym d.part) ∙ m
        kept (inr (inl o)) u = let w : o.0 ≡ d.asked = cc (o.1.0, d.in_hand) in absurd (omega (arith, o.1.2, d.left, ap (λ (x : Request). x.level) w))
        kept (inr (inr k)) u = absurd (true≢false (sym (gathers-source s f.running q ℓ (rw d.part at k)) ∙ u))

        own : OwnSlot s d.asked.block q ℓ i → s.mark (cell s.shape q ℓ i) ≡ 1
        own k = ⊎_elim (kept (f.unread d.asked.block ℓ i (block-lt s f d.asked d.in_hand) (slot-own ℓ i (s.place d.asked.block) k.0)))
            (unread-mark s q ℓ i) k.1

  -- A job's read: its slot is unread
  module _ (q ℓ i : ℕ) (d : JobReads s q ℓ i) where
    pub job-unread : s.mark (cell s.shape q ℓ i) ≡ 1
    job-unread = unread-mark s q ℓ i d.unread

-- A job that has not begun has left the slots of its partition's blocks unread; the request for a block may have read its slot
pub untouched : (s : State) → Reached s → (b ℓ i : ℕ) → b < s.shape.N → s.place b ≡ stored ℓ i → s.begun ≡ 0 → (s.mark (cell s.shape (s.partition b) ℓ i) ≡ 1) ⊎ Own s b ℓ
untouched s f b ℓ i hb e z = ⊎_elim inl (λ k. ⊎_elim inr (λ g. absurd (g.2.0 z)) k) (f.unread b ℓ i hb e)

-- A slot that counts as read still does when another read is sent
pub still_read : (x c : ℕ) (mark : ℕ → ℕ) → mark c ≡ 0 → put x 0 mark c ≡ 0
still_read x c mark e = put_has (λ v. v ≡ 0) x 0 mark c refl e

pub read-items : (s : State) → Reached s → (x : ℕ) → Items s.shape (counted s) s.order (put x 0 s.mark) s.holds
read-items s f x q ℓ hq hℓ e =
    let r = f.items q ℓ hq hℓ e in
    (r.0, record { few = r.1.few; blocks = λ k l hk z. still_read x _ s.mark (r.1.blocks k l hk z); dummies = r.1.dummies })

-- A read of an unread slot is in another slot than each outstanding command, if the writes are of other partitions
pub read-apart : (s : State) → Reached s → (q ℓ i : ℕ) → s.mark (cell s.shape q ℓ i) ≡ 1 → ((c : Command) → Writing s c → ¬ (c.partition ≡ q)) → All (λ c. Elsewhere c (cmd read q ℓ i)) s.outstanding
read-apart s f q ℓ i u n = all_map (λ c k w. ⊎_elim (λ a. omega (arith, sym a.is_read ∙ ap s.mark (same c w) ∙ u)) (λ a. n c a w.0) k) f.commands
  where
    same : (c : Command) → (c.partition ≡ q) × (c.level ≡ ℓ) × (c.slot ≡ i) → cell s.shape c.partition c.level c.slot ≡ cell s.shape q ℓ i
    same c w = rw (w.0, w.1, w.2)
