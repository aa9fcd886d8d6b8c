-- What a turn's step says of the state it was decided in.
use Rattle.std.proofs.Math.Path.{◌≡◌, refl, ap}
use Rattle.std.proofs.Common.{sym, ◌∙◌, arith, eqb-true, eq-eqb}
use Rattle.std.specs.Prelude.{◌⊎◌, Bool, ◌&&◌, ◌||◌, leb, if◌then◌else◌}
use Rattle.std.proofs.Math.Logic.{inl, inr}
use Rattle.std.proofs.Math.Bool.{true, false, not, true≢false}
use mathlib.Core.List.{List, [], ◌∷◌}
use Rattle.std.proofs.Math.Option.{Option, none, none as nothing, some, get_or}
use Prim.Native.Nat.{ℕ, suc, ◌-◌, ◌≤◌, ◌<◌}
use Rattle.std.proofs.Math.Dec.{eqb}
use Rattle.std.proofs.lemmas.Bool.{eqb-false}
use Rattle.lists.specs.All.{All, nil, cons, IfSome, all_map, all_keep, count-below, keep-passes, all_both, find-both, find_none, any_none}
use Rattle.lists.specs.Members.{count-from, keep-first}
use Rattle.lists.specs.Search
use Rattle.lists.specs.Search.{find, or_else}
use Rattle.lists.specs.Tests.{and_l, and_r, and-true, or-false-l, or-false-r}
use Rattle.rules.specs.Blocks
use Rattle.rules.proofs.Laws.Decided.{places-in}
use Rattle.rules.specs.Jobs.{top_of, levels_of, write_at}
use Rattle.rules.specs.Levels.{filled}
use Rattle.rules.specs.Rebuild
use Rattle.rules.specs.Rebuild.{places}
use Rattle.rules.specs.Reader
use Rattle.rules.specs.Laws.Reader.{slot_in, if_unread, slot_said}
use Rattle.rules.proofs.Laws.Reader.{costs-is, slot_read-is}
use Rattle.rules.specs.Request
use Rattle.rules.specs.Request.{held}
use Rattle.rules.specs.Shape.{offset, slots}
use Rattle.rules.specs.State.{State, Command, Request, stored}
use Rattle.rules.specs.Turn
use Rattle.rules.specs.Turn.{Step, idle, no_dummy, read_for_request, read_for_job, rebuild, write_next, decide}
use Rattle.reachable.proofs.Scan.{scan-none, scan-least, test}
use Rattle.reachable.specs.Terms.{CallsLeft}

-- a request that finds no slot to read
pub record Lacks (s : State) : Type 0 where
  pub asked : Request
  pub level : ℕ
  pub in_hand : s.request ≡ some asked
  pub unheld : Request.held asked ≡ false
  pub left : asked.level ≤ level
  pub top : level < s.shape.L
  pub cost : Reader.costs s (s.partition asked.block) level ≡ true
  pub none : Reader.slot_read s (s.partition asked.block) (s.place asked.block) level ≡ nothing

-- the slot that a request for block b reads of level ℓ of q: its block's, which in a source is unread; else in no source the lowest dummy's; and in
-- a source, where its block is not unread, the lowest item's
abbrev pub OwnSlot : State → ℕ → ℕ → ℕ → ℕ → Type 0
OwnSlot s b q ℓ i = (slot_in ℓ (s.place b) ≡ some i) × ((Request.is_source s q ℓ ≡ false) ⊎ (Blocks.is_unread s q ℓ i ≡ true))

abbrev pub DummySlot : State → ℕ → ℕ → ℕ → ℕ → Type 0
DummySlot s b q ℓ i = (Request.is_source s q ℓ ≡ false) × (slot_in ℓ (s.place b) ≡ none) × (Reader.dummy s q ℓ ≡ some i)

abbrev pub ItemSlot : State → ℕ → ℕ → ℕ → ℕ → Type 0
ItemSlot s b q ℓ i = (Request.is_source s q ℓ ≡ true) × (if_unread (Blocks.is_unread s q ℓ) (slot_in ℓ (s.place b)) ≡ none) × (Reader.lowest s q ℓ ≡ some i)

-- the block's slot if its place is there; in a source, if the block is there unread
pub slot-here : (ℓ i : ℕ) → slot_in ℓ (stored ℓ i) ≡ some i
unfolding slot_in
slot-here ℓ i = rw (eq-eqb ℓ ℓ refl)

pub if-unread : (p : ℕ → Bool) (i : ℕ) → p i ≡ true → if_unread p (some i) ≡ some i
unfolding if_unread
if-unread p i e = rw e

pub costs-filled : (s : State) (q ℓ : ℕ) → Reader.costs s q ℓ ≡ true → filled (s.counter q) ℓ ≡ true
costs-filled s q ℓ e = and_l (filled (s.counter q) ℓ) (not (Request.is_source s q ℓ) || Search.any (Blocks.is_unread s q ℓ) (Search.below (slots ℓ))) (sym (costs-is s q ℓ) ∙ e)

slot_cases : (s : State) (b q ℓ i : ℕ) → Reader.slot_read s q (s.place b) ℓ ≡ some i → OwnSlot s b q ℓ i ⊎ (DummySlot s b q ℓ i ⊎ ItemSlot s b q ℓ i)
slot_cases s b q ℓ i e = go (Reader.costs s q ℓ) (Request.is_source s q ℓ) refl (sym (slot_read-is s q (s.place b) ℓ) ∙ e)
  where
    other : Request.is_source s q ℓ ≡ false → (a c : Option ℕ) → slot_in ℓ (s.place b) ≡ a → Reader.dummy s q ℓ ≡ c → or_else a c ≡ some i → OwnSlot s b q ℓ i ⊎ (DummySlot s b q ℓ i ⊎ ItemSlot s b q ℓ i)
    other u none c ea ec w = inr (inl (u, ea, ec ∙ unfold or_else in w))
    other u (some j) c ea ec w = inl (ea ∙ unfold or_else in w, inl u)

    source : Request.is_source s q ℓ ≡ true → (a c : Option ℕ) → if_unread (Blocks.is_unread s q ℓ) (slot_in ℓ (s.place b)) ≡ a → Reader.lowest s q ℓ ≡ c → or_else a c ≡ some i → OwnSlot s b q ℓ i ⊎ (DummySlot s b q ℓ i ⊎ ItemSlot s b q ℓ i)
    source u none c ea ec w = inr (inr (u, ea, ec ∙ unfold or_else in w))
    source u (some j) c ea ec w = own (slot_in ℓ (s.place b)) refl (ea ∙ unfold or_else in w)
      where
        own : (o : Option ℕ) → slot_in ℓ (s.place b) ≡ o → if_unread (Blocks.is_unread s q ℓ) o ≡ some i → OwnSlot s b q ℓ i ⊎ (DummySlot s b q ℓ i ⊎ ItemSlot s b q ℓ i)
        own none eo w = let z : ◌≡◌ {A = ℕ} 0 1 = unfold if_unread in (cc) in absurd (omega arith)
        own (some k) eo w = by (Blocks.is_unread s q ℓ k) refl (unfold if_unread in w)
          where
            by : (t : Bool) → Blocks.is_unread s q ℓ k ≡ t → (if t then some k else none) ≡ some i → OwnSlot s b q ℓ i ⊎ (DummySlot s b q ℓ i ⊎ ItemSlot s b q ℓ i)
            by true v w = let x : k ≡ i = cc in inl (eo ∙ w, inr (rw (← x) v))
            by false v w = let z : ◌≡◌ {A = ℕ} 0 1 = cc in absurd (omega arith)

    go : (k t : Bool) → Request.is_source s q ℓ ≡ t → (if k then slot_said t (Blocks.is_unread s q ℓ) (Reader.dummy s q ℓ) (Reader.lowest s q ℓ) (s.place b) ℓ else none) ≡ some i
        → OwnSlot s b q ℓ i ⊎ (DummySlot s b q ℓ i ⊎ ItemSlot s b q ℓ i)
    go false t u e = let z : ◌≡◌ {A = ℕ} 0 1 = cc in absurd (omega arith)
    go true true u e = source u (if_unread (Blocks.is_unread s q ℓ) (slot_in ℓ (s.place b))) (Reader.lowest s q ℓ) refl refl (unfold slot_said in e)
    go true false u e = other u (slot_in ℓ (s.place b)) (Reader.dummy s q ℓ) refl refl (unfold slot_said in e)

-- a request's read
pub record RequestReads (s : State) (q ℓ i : ℕ) : Type 0 where
  pub asked : Request
  pub in_hand : s.request ≡ some asked
  pub part : s.partition asked.block ≡ q
  pub unheld : Request.held asked ≡ false
  pub left : asked.level ≤ ℓ
  pub top : ℓ < s.shape.L
  pub full : filled (s.counter q) ℓ ≡ true
  pub first : (m : ℕ) → asked.level ≤ m → m < ℓ → Reader.costs s q m ≡ false
  pub slot : OwnSlot s asked.block q ℓ i ⊎ (DummySlot s asked.block q ℓ i ⊎ ItemSlot s asked.block q ℓ i)

-- a request that is not held has no level left
abbrev pub Behind : State → Type 0
Behind s = (r : Request) → s.request ≡ some r → Request.held r ≡ false → Reader.levels_left s r ≡ []

-- a job's read
pub record JobReads (s : State) (q ℓ i : ℕ) : Type 0 where
  pub rest : List ℕ
  pub front : s.queue ≡ q ∷ rest
  pub calm : s.sent ≡ 0
  pub source : ℓ ≤ top_of s q
  pub full : filled (s.counter q) ℓ ≡ true
  pub slot : i < slots ℓ
  pub unread : Blocks.is_unread s q ℓ i ≡ true
  pub behind : Behind s
  pub next : (m j : ℕ) → m ≤ top_of s q → filled (s.counter q) m ≡ true → j < slots m → s.cursor ≤ offset m j → offset m j < offset ℓ i → Blocks.is_unread s q m j ≡ false

-- the draw of the orders of the written levels
pub record Rebuilds (s : State) (q : ℕ) (ls : List ℕ) : Type 0 where
  pub rest : List ℕ
  pub front : s.queue ≡ q ∷ rest
  pub calm : s.sent ≡ 0
  pub goal : ls ≡ levels_of s q
  pub read : (ℓ i : ℕ) → ℓ ≤ top_of s q → filled (s.counter q) ℓ ≡ true → i < slots ℓ → s.cursor ≤ offset ℓ i → Blocks.is_unread s q ℓ i ≡ false
  pub quiet : All (λ (c : Command). eqb c.partition q ≡ false) s.outstanding
  pub apart : (r : Request) → s.request ≡ some r → Request.held r ≡ false → ¬ (s.partition r.block ≡ q)

-- a further write
pub record Writes (s : State) (q t i : ℕ) : Type 0 where
  pub rest : List ℕ
  pub front : s.queue ≡ q ∷ rest
  pub busy : s.sent ≡ 0 → ⊥
  pub now : write_at (levels_of s q) s.sent ≡ some (t, i)

abbrev pub Decided : State → Step → Type 0
Decided s idle = Unit {0}
Decided s no_dummy = Lacks s
Decided s (read_for_request q ℓ i) = RequestReads s q ℓ i
Decided s (read_for_job q ℓ i) = JobReads s q ℓ i
Decided s (rebuild q ls) = Rebuilds s q ls
Decided s (write_next q t i) = Writes s q t i

module _ (s : State) where
  pub levels-left : (r : Request) → All (λ ℓ. (r.level ≤ ℓ) × (ℓ < s.shape.L) × (Reader.costs s (s.partition r.block) ℓ ≡ true)) (Reader.levels_left s r)
  unfolding Reader.levels_left
  levels-left r = all_map (λ x k. (k.0.0, omega (arith, k.0.0, k.0.1), k.1))
      (all_both (all_keep _ (all_both (count-from r.level (s.shape.L - r.level)) (count-below r.level (s.shape.L - r.level)))) (keep-passes _ _))

  request-decided : (o : Option Request) → s.request ≡ o → IfSome (Decided s) (Turn.request_step s o)
  unfolding Turn.request_step Turn.first_read Turn.read_step
  request-decided none e = tt
  request-decided (some r) e = go (Request.held r) refl
    where
      q : ℕ
      q = s.partition r.block

      slot : (ℓ : ℕ) → Request.held r ≡ false → ((m : ℕ) → r.level ≤ m → m < ℓ → Reader.costs s q m ≡ false) → (r.level ≤ ℓ) × (ℓ < s.shape.L) × (Reader.costs s q ℓ ≡ true) → (a : Option ℕ) → Reader.slot_read s q (s.place r.block) ℓ ≡ a
          → Decided s (Turn.read_step q ℓ a)
      slot ℓ u v k none ea = record { asked = r; level = ℓ; in_hand = e; unheld = u; left = k.0; top = k.1; cost = k.2; none = ea }
      slot ℓ u v k (some i) ea = record { asked = r; in_hand = e; part = refl; unheld = u; left = k.0; top = k.1; full = costs-filled s q ℓ k.2; first = v; slot = slot_cases s r.block q ℓ i ea }

      first : (ls : List ℕ) → Reader.levels_left s r ≡ ls → Request.held r ≡ false → All (λ ℓ. (r.level ≤ ℓ) × (ℓ < s.shape.L) × (Reader.costs s q ℓ ≡ true)) ls
          → IfSome (Decided s) (Turn.first_read q (Reader.slot_read s q (s.place r.block)) ls)
      first [] e u nil = tt
      first (ℓ ∷ ls) e u (cons k t) = slot ℓ u (λ m a b. unfold Reader.levels_left in (keep-first (Reader.costs s q) r.level (s.shape.L - r.level) ℓ ls e m a b)) k (Reader.slot_read s q (s.place r.block) ℓ) refl

      go : (t : Bool) → Request.held r ≡ t → IfSome (Decided s) (if t then none else Turn.first_read q (Reader.slot_read s q (s.place r.block)) (Reader.levels_left s r))
      go true u = tt
      go false u = first (Reader.levels_left s r) refl u (levels-left r)

  -- where the request has no step, a request that is not held has no level left
  step-behind : (o : Option Request) → s.request ≡ o → Turn.request_step s o ≡ none → Behind s
  unfolding Turn.request_step Turn.first_read
  step-behind none e w r k u = let z : ◌≡◌ {A = ℕ} 0 1 = cc in absurd (omega arith)
  step-behind (some x) e w r k u = let v : x ≡ r = cc in rw (← v) (go (Request.held x) (Reader.levels_left s x) (ap Request.held v ∙ u) w)
    where
      go : (t : Bool) (ls : List ℕ) → t ≡ false → (if t then none else Turn.first_read (s.partition x.block) (Reader.slot_read s (s.partition x.block) (s.place x.block)) ls) ≡ none → ls ≡ []
      go true ls f w = absurd (true≢false f)
      go false [] f w = refl
      go false (ℓ ∷ ls) f w = let z : ◌≡◌ {A = ℕ} 0 1 = cc in absurd (omega arith)

  -- no released request is in hand for q
  looks-none : (q : ℕ) (o : Option Request) → s.request ≡ o → Request.released_for s.partition o q ≡ false → (r : Request) → s.request ≡ some r → Request.held r ≡ false → ¬ (s.partition r.block ≡ q)
  unfolding Request.released_for
  looks-none q none e w r k u z = let y : ◌≡◌ {A = ℕ} 0 1 = cc in absurd (omega arith)
  looks-none q (some x) e w r k u z =
      let v : x ≡ r = cc in
      let u' : Request.held x ≡ false = ap Request.held v ∙ u in
      let z' : s.partition x.block ≡ q = ap (λ (y : Request). s.partition y.block) v ∙ z in
      true≢false (sym (and-true (ap not u') (eq-eqb (s.partition x.block) q z')) ∙ w)

  -- an unread slot of a filled level
  fresh : ℕ → ℕ → ℕ → Bool
  fresh q ℓ i = filled (s.counter q) ℓ && Blocks.is_unread s q ℓ i

  not-fresh : (q ℓ i : ℕ) → filled (s.counter q) ℓ ≡ true → fresh q ℓ i ≡ false → Blocks.is_unread s q ℓ i ≡ false
  unfolding fresh
  not-fresh q ℓ i e k = rw e at k

  job-decided : Behind s → (l : List ℕ) → s.queue ≡ l → Decided s (Turn.job_step s l)
  unfolding Turn.job_step Turn.rebuild_step Turn.write_step Turn.gather_step Turn.next_write fresh
  job-decided bh [] e = tt
  job-decided bh (q ∷ l) e = go (eqb s.sent 0) refl
    where
      draws : s.sent ≡ 0 → Rebuild.unread s q ≡ none → (t : Bool) → (Search.any (λ (c : Command). eqb c.partition q) s.outstanding || Request.released_for s.partition s.request q) ≡ t → Decided s (if t then idle else rebuild q (levels_of s q))
      draws z u true a = tt
      draws z u false a = record {
        rest = l;
        front = e;
        calm = z;
        goal = refl;
        read = λ ℓ i hℓ k hi c. not-fresh q ℓ i k (unfold Rebuild.unread Rebuild.next_unread in (scan-none s.cursor (suc (top_of s q)) (fresh q) (find_none _ _ u)) ℓ i (omega arith) hi c);
        quiet = any_none _ _ (or-false-l (Search.any (λ (c : Command). eqb c.partition q) s.outstanding) (Request.released_for s.partition s.request q) a);
        apart = looks-none q s.request refl (or-false-r (Search.any (λ (c : Command). eqb c.partition q) s.outstanding) (Request.released_for s.partition s.request q) a);
      }

      reads : s.sent ≡ 0 → (o : Option (ℕ × ℕ)) → Rebuild.unread s q ≡ o → IfSome (λ (p : ℕ × ℕ). (fresh q p.0 p.1 ≡ true) × ((p.0 < suc (top_of s q)) × (p.1 < slots p.0))) o
          → Decided s (Turn.gather_step q o (Turn.rebuild_step s q))
      reads z none u h = draws z u (Search.any (λ (c : Command). eqb c.partition q) s.outstanding || Request.released_for s.partition s.request q) refl
      reads z (some p) u h = record {
        rest = l;
        front = e;
        calm = z;
        source = omega (arith, h.1.0);
        full = and_l (filled (s.counter q) p.0) (Blocks.is_unread s q p.0 p.1) h.0;
        slot = h.1.1;
        unread = and_r (filled (s.counter q) p.0) (Blocks.is_unread s q p.0 p.1) h.0;
        behind = bh;
        next = λ m j hm k hj c n. not-fresh q m j k (unfold Rebuild.unread Rebuild.next_unread in (scan-least s.cursor (suc (top_of s q)) (fresh q) p u) m j (omega arith) hj c n);
      }

      writes : (s.sent ≡ 0 → ⊥) → (o : Option (ℕ × ℕ)) → write_at (levels_of s q) s.sent ≡ o → Decided s (Turn.next_write q o)
      writes n none k = tt
      writes n (some p) k = record { rest = l; front = e; busy = n; now = k }

      found : IfSome (λ (p : ℕ × ℕ). (fresh q p.0 p.1 ≡ true) × ((p.0 < suc (top_of s q)) × (p.1 < slots p.0))) (Rebuild.unread s q)
      found = unfold Rebuild.unread Rebuild.next_unread in (passes (find (test s.cursor 0 (fresh q)) (places (suc (top_of s q)))) (find-both _ (places-in (suc (top_of s q)))))
        where
          passes : (o : Option (ℕ × ℕ)) → IfSome (λ (p : ℕ × ℕ). (test s.cursor 0 (fresh q) p ≡ true) × ((p.0 < suc (top_of s q)) × (p.1 < slots p.0))) o
              → IfSome (λ (p : ℕ × ℕ). (fresh q p.0 p.1 ≡ true) × ((p.0 < suc (top_of s q)) × (p.1 < slots p.0))) o
          passes none h = tt
          passes (some p) h = (and_r (leb s.cursor (offset p.0 p.1)) (fresh q p.0 p.1) h.0, h.1)

      go : (t : Bool) → eqb s.sent 0 ≡ t → Decided s (if t then Turn.gather_step q (Rebuild.unread s q) (Turn.rebuild_step s q) else Turn.write_step s q)
      go true k = reads (eqb-true s.sent 0 k) (Rebuild.unread s q) refl found
      go false k = writes (eqb-false s.sent 0 k) (write_at (levels_of s q) s.sent) refl

  pub decided : Decided s (decide s)
  unfolding decide
  decided = go (Turn.request_step s s.request) refl (request-decided s.request refl)
    where
      go : (o : Option Step) → Turn.request_step s s.request ≡ o → IfSome (Decided s) o → Decided s (get_or o (Turn.job_step s s.queue))
      go none w h = job-decided (step-behind s.request refl w) s.queue refl
      go (some x) w h = h

-- Of states that calls left
module _ (left : State) (calls : CallsLeft left) where
  -- P4: "and the job draws its order only after the request is collected"; P7: its orders
  pub draws-later : (q : ℕ) (ls : List ℕ) → decide left ≡ rebuild q ls → (r : Request) → left.request ≡ some r → held r ≡ false → ¬ (left.partition r.block ≡ q)
  draws-later q ls e r h u = let d : Rebuilds left q ls = rw e at (decided left) in d.apart r h u
