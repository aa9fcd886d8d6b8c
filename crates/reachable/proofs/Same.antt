-- Two states that differ only in what no call reads: orders of levels that are not live, and contents of blocks that the client does not have. What
-- a call asks and answers is the same in both.
use Rattle.std.specs.Prelude.{◌≡◌, Bool, ◌&&◌, leb, length, if◌then◌else◌}
use Rattle.std.proofs.Math.Path.{refl, ap, sym, ap₂}
use Rattle.std.proofs.Common.{◌∙◌, inl, inr, true≢false, arith}
use Rattle.std.proofs.Math.Bool.{true, false}
use mathlib.Core.List.{List, [], ◌∷◌, ◌++◌, map}
use Rattle.std.proofs.Math.Option.{Option, none, some, get_or}
use Prim.Native.Nat.{ℕ, suc, ◌-◌, ◌<◌}
use Rattle.std.proofs.Math.Dec.{eqb}
use Rattle.rules.specs.Collect
use Rattle.reachable.proofs.Saved.{rest-facts}
use Rattle.rules.specs.Laws.Answers.{opens}
use Rattle.rules.proofs.Laws.Form.Tables.{all-each, all-mapped}
use Rattle.rules.proofs.Laws.Form.Reads.{each_same}
use Rattle.rules.specs.Form.Longest.{longest}
use Rattle.rules.specs.Form.Sums.{in_blocks}
use Rattle.rules.specs.Form.Numbers.{little, each, form_of, slot_width}
use Rattle.rules.specs.Form.Payload.{filled_levels, order_slots, read_marks, level_bytes, block_bytes, waiters, payload, saved_form}
use Rattle.lists.specs.All.{All, nil, cons, keep-passes, all_map, below-below}
use Rattle.lists.specs.Distinct.{Mem}
use Rattle.lists.specs.Members.{mem_below, keep-mem, mem-count, all-mem, mem-all}
use Rattle.lists.specs.Places.{map_same}
use Rattle.lists.specs.Search.{find, below, count, keep, is_none}
use Rattle.rules.specs.Blocks
use Rattle.rules.specs.Laws.Form.Saveable.{over}
use Rattle.rules.specs.Levels.{filled}
use Rattle.rules.specs.Questions
use Rattle.rules.specs.Questions.{Ask, opening, request, turn, completion, collect, save, load, questions, possible, first_no, bounds, Call, number}
use Rattle.rules.specs.Jobs.{joined, top_of, levels_of}
use Rattle.rules.specs.Rebuild
use Rattle.rules.specs.Rebuild.{gathered, fills, new_orders}
use Rattle.rules.specs.Reader
use Rattle.rules.specs.Laws.Reader.{read_by}
use Rattle.rules.specs.Request
use Rattle.rules.specs.Shape.{cell, slots}
use Rattle.rules.specs.State.{State, Request, Place}
use Rattle.rules.specs.Turn
use Rattle.rules.specs.Turn.{Step, idle, no_dummy, read_for_request, read_for_job, rebuild, write_next, decide, do_step}
use Rattle.reachable.proofs.Consequences.{block-lt, released-count}
use Rattle.reachable.proofs.Decided.{costs-filled}
use Rattle.reachable.specs.Invariant.{Reached}
use Rattle.reachable.specs.Live.{counted}
use Rattle.reachable.proofs.Live.{counted-calm}
use Rattle.reachable.proofs.Reached.{ready-memory}
use Rattle.reachable.specs.Same.{Same}

module _ (s : State) (f : Reached s) (y : ℕ → List ℕ) (o : ℕ → ℕ) (g : Reached (over y o s)) (k : Same s y o) where
  abbrev t : State
  t = over y o s

  pub ready-same : (m : ℕ) → Questions.ready t m ≡ Questions.ready s m
  ready-same m = ready-memory t m g ∙ sym (ready-memory s m f)

  -- a dummy of a live level is the same
  dummy-same : (q ℓ : ℕ) → q < s.shape.P → ℓ < s.shape.L → filled (counted s q) ℓ ≡ true → Reader.dummy t q ℓ ≡ Reader.dummy s q ℓ
  unfolding Reader.dummy Blocks.is_unread Blocks.holder
  dummy-same q ℓ hq hℓ e = ap (find (λ i. eqb (s.mark (cell s.shape q ℓ i)) 1 && is_none (Blocks.named (s.holds (cell s.shape q ℓ i)))))
      (map_same (λ j. o (cell s.shape q ℓ j)) (λ j. s.order (cell s.shape q ℓ j)) (below (slots ℓ)) (λ j m. k.orders q ℓ j hq hℓ e (mem_below (slots ℓ) j m)))

  -- ..and so is the lowest unread item
  lowest-same : (q ℓ : ℕ) → q < s.shape.P → ℓ < s.shape.L → filled (counted s q) ℓ ≡ true → Reader.lowest t q ℓ ≡ Reader.lowest s q ℓ
  unfolding Reader.lowest Blocks.is_unread
  lowest-same q ℓ hq hℓ e = ap (find (λ i. eqb (s.mark (cell s.shape q ℓ i)) 1))
      (map_same (λ j. o (cell s.shape q ℓ j)) (λ j. s.order (cell s.shape q ℓ j)) (below (slots ℓ)) (λ j m. k.orders q ℓ j hq hℓ e (mem_below (slots ℓ) j m)))

  slot_same : (q ℓ : ℕ) (x : Place) → q < s.shape.P → ℓ < s.shape.L → filled (counted s q) ℓ ≡ true → Reader.slot_read t q x ℓ ≡ Reader.slot_read s q x ℓ
  unfolding Reader.slot_read Reader.read_level Reader.read_real Reader.read_fake Reader.condition Request.is_source Blocks.is_unread top_of joined
  slot_same q ℓ x hq hℓ e = ap₂ (λ a b. read_by (Reader.condition s q ℓ) (Blocks.is_unread s q ℓ (Reader.slot_of x)) b a x ℓ) (lowest-same q ℓ hq hℓ e) (dummy-same q ℓ hq hℓ e)

  first-same : (q : ℕ) (x : Place) (ls : List ℕ) → ((ℓ : ℕ) → Mem ℓ ls → Reader.slot_read t q x ℓ ≡ Reader.slot_read s q x ℓ) → Turn.first_read q (Reader.slot_read t q x) ls ≡ Turn.first_read q (Reader.slot_read s q x) ls
  unfolding Turn.first_read
  first-same q x [] e = refl
  first-same q x (ℓ ∷ ls) e = ap (λ d. some (Turn.read_step q ℓ d)) (e ℓ (inl refl))

  request-same : (r : Option Request) → s.request ≡ r → Turn.request_step t r ≡ Turn.request_step s r
  unfolding Turn.request_step Reader.levels_left Reader.costs Reader.condition Request.is_source Blocks.is_unread top_of joined
  request-same none e = refl
  request-same (some r) e = go (Request.held r) refl
    where
      q : ℕ
      q = s.partition r.block

      levels : List ℕ
      levels = keep (Reader.costs s q) (count r.level (s.shape.L - r.level))

      reads : Request.held r ≡ false → (ℓ : ℕ) → Mem ℓ levels → Reader.slot_read t q (s.place r.block) ℓ ≡ Reader.slot_read s q (s.place r.block) ℓ
      reads u ℓ m =
          let c = mem-count r.level (s.shape.L - r.level) ℓ (keep-mem (Reader.costs s q) (count r.level (s.shape.L - r.level)) ℓ m) in
          let full : filled (s.counter q) ℓ ≡ true = costs-filled s q ℓ (all-mem (keep-passes (Reader.costs s q) (count r.level (s.shape.L - r.level))) ℓ m) in
          slot_same q ℓ (s.place r.block) (f.range.partitions r.block (block-lt s f r e)) (omega (arith, c.0, c.1))
          (ap (λ n. filled n ℓ) (released-count s f r e u) ∙ full)

      go : (b : Bool) → Request.held r ≡ b → (if b then none else Turn.first_read q (Reader.slot_read t q (s.place r.block)) levels) ≡ (if b then none else Turn.first_read q (Reader.slot_read s q (s.place r.block)) levels)
      go true u = refl
      go false u = first-same q (s.place r.block) levels (reads u)

  job-same : (qs : List ℕ) → Turn.job_step t qs ≡ Turn.job_step s qs
  unfolding Turn.job_step Rebuild.unread Rebuild.next_unread Turn.rebuild_step Turn.write_step Blocks.is_unread top_of levels_of joined
  job-same [] = refl
  job-same (q ∷ qs) = refl

  pub decide-same : decide t ≡ decide s
  unfolding decide
  decide-same = ap (λ x. get_or x (Turn.job_step t s.queue)) (request-same s.request refl) ∙ ap (λ x. get_or (Turn.request_step s s.request) x) (job-same s.queue)

  possible-same : (x : Step) → possible t x ≡ possible s x
  unfolding possible Rebuild.gathered Rebuild.chosen Blocks.blocks_in Blocks.entries top_of joined
  possible-same idle = refl
  possible-same no_dummy = refl
  possible-same (read_for_request q ℓ i) = refl
  possible-same (read_for_job q ℓ i) = refl
  possible-same (rebuild q ls) = refl
  possible-same (write_next q t i) = refl

  -- ---- The form

  level-same : (w q ℓ : ℕ) → q < s.shape.P → ℓ < s.shape.L → filled (counted s q) ℓ ≡ true → level_bytes w t (q, ℓ) ≡ level_bytes w s (q, ℓ)
  unfolding level_bytes order_slots read_marks
  level-same w q ℓ hq hℓ e = ap (λ xs. each (little w) xs ++ map (λ i. 1 - s.mark (cell s.shape q ℓ i)) (below (slots ℓ)))
      (map_same (λ j. o (cell s.shape q ℓ j)) (λ j. s.order (cell s.shape q ℓ j)) (below (slots ℓ)) (λ j m. k.orders q ℓ j hq hℓ e (mem_below (slots ℓ) j m)))

  levels-same : s.sent ≡ 0 → (w : ℕ) → each (level_bytes w t) (filled_levels s.shape.P s.shape.L s.counter) ≡ each (level_bytes w s) (filled_levels s.shape.P s.shape.L s.counter)
  unfolding filled_levels
  levels-same z w = each_same _ _ (all-each _ (all_map (λ q hq. all-mapped (λ ℓ. (q, ℓ)) (mem-all (keep (filled (s.counter q)) (below s.shape.L))
      (λ ℓ m. level-same w q ℓ hq (mem_below s.shape.L ℓ (keep-mem _ (below s.shape.L) ℓ m))
      (ap (λ c. filled c ℓ) (counted-calm s q z) ∙ all-mem (keep-passes (filled (s.counter q)) (below s.shape.L)) ℓ m)))) (below-below s.shape.P)))

  waiters-same : (a : ℕ) (bs : List ℕ) → All (λ b. b < s.shape.N) bs → ((b : ℕ) → Mem b bs → Mem b s.waiting) → waiters y a bs ≡ waiters s.bytes a bs
  unfolding waiters
  waiters-same a [] nil m = refl
  waiters-same a (b ∷ bs) (cons h h') m = let e : y b ≡ s.bytes b = sym (k.values.waiting b h (m b (inl refl))) in rw (e, waiters-same (suc a) bs h' (λ x n. m x (inr n)))

  payload_same : s.sent ≡ 0 → payload t ≡ payload s
  unfolding payload block_bytes
  payload_same z = rw (levels-same z (slot_width (form_of s.shape)), waiters-same 0 s.waiting f.range.waiting (λ b m. m))

  pub form-same : s.sent ≡ 0 → saved_form t ≡ saved_form s
  unfolding saved_form
  form-same z = ap in_blocks (payload_same z)

  -- ---- The number

  rest-same : Questions.at_rest t ≡ Questions.at_rest s
  unfolding Questions.at_rest
  rest-same = refl

  save-number : (m n : ℕ) (b : Bool) → Questions.at_rest s ≡ b → first_no ((Questions.ready s m && leb (longest s.shape) n, 2) ∷ (b, 16) ∷ (leb (length (saved_form t)) n, 2) ∷ [])
      ≡ first_no ((Questions.ready s m && leb (longest s.shape) n, 2) ∷ (b, 16) ∷ (leb (length (saved_form s)) n, 2) ∷ [])
  unfolding first_no
  save-number m n true e = rw (form-same (f.unbegun (rest-facts s e).unbegun).1)
  save-number m n false e = refl

  number_of : (a : Ask) (m : ℕ) (ws : List ℕ) (n : ℕ) → opens a ≡ false → first_no (questions t a m ws n) ≡ first_no (questions s a m ws n)
  unfolding questions bounds opens
  number_of (opening h) m ws n e = absurd (true≢false e)
  number_of (request j b bs) m ws n e = rw (ready-same m)
  number_of turn m ws n e = rw (ready-same m, decide-same, possible-same (decide s))
  number_of (completion c bs) m ws n e = rw (ready-same m)
  number_of collect m ws n e = rw (ready-same m) (unfold Collect.finished Reader.levels_left Reader.costs Reader.condition Request.is_source Blocks.is_unread top_of joined in refl)
  number_of save m ws n e = rw (ready-same m, rest-same) (save-number m n (Questions.at_rest s) refl)
  number_of (load form) m ws n e = absurd (true≢false e)

  pub number_same : (c : Call) → opens c.ask ≡ false → number t c ≡ number s c
  unfolding number
  number_same c e = number_of c.ask c.memory c.words c.buffer e

-- ---- What a call leaves

-- the orders after a step: a rebuild writes those of its levels
unfoldable pub orders_after : Step → List ℕ → State → (ℕ → ℕ) → ℕ → ℕ
orders_after idle js s o = o
orders_after no_dummy js s o = o
orders_after (read_for_request q ℓ i) js s o = o
orders_after (read_for_job q ℓ i) js s o = o
orders_after (rebuild q ls) js s o = new_orders s.shape q (fills ls js (gathered s q)) o
orders_after (write_next q t i) js s o = o

pub step-over : (x : Step) (js : List ℕ) (s : State) (y : ℕ → List ℕ) (o : ℕ → ℕ) → do_step x js (over y o s) ≡ over y (orders_after x js s o) (do_step x js s)
unfolding do_step orders_after Turn.send Turn.mark_read Rebuild.do_rebuild Rebuild.gathered Rebuild.chosen Blocks.blocks_in Blocks.entries top_of joined Request.is_source
step-over idle js s y o = refl
step-over no_dummy js s y o = refl
step-over (read_for_request q ℓ i) js s y o = refl
step-over (read_for_job q ℓ i) js s y o = refl
step-over (rebuild q ls) js s y o = refl
step-over (write_next q t i) js s y o = refl

-- a request is released alike
pub release-over : (s : State) (y : ℕ → List ℕ) (o : ℕ → ℕ) → Request.release (over y o s) ≡ over y o (Request.release s)
unfolding Request.released_in Request.blocked Request.held_for Request.undrawn_only Request.worn Request.is_source Blocks.look_up top_of joined
release-over s y o = refl
