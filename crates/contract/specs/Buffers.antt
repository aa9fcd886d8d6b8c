-- What a turn or a collect puts into the buffer has B bytes: so the buffer has it whole.
use Rattle.std.specs.Prelude.{◌≡◌, refl, Bool, true, false, List, ◌++◌, ℕ, suc, ◌+◌, ◌≤◌, ◌<◌, leb, ltb, length, drop, replicate, if◌then◌else◌}
use Rattle.std.proofs.Common.{ap, sym, ◌∙◌, true≢false, append-nil, suc-mul, mul-le-mul_right, arith, length-drop, length-take-le, leb-true}
use Rattle.std.proofs.Math.Option.{Option, none, some}
use Rattle.std.proofs.Math.Decide.{dec_lt}
use Rattle.std.proofs.lemmas.List.{length-replicate}
use Rattle.std.proofs.Math.Seq.{drop-length}
use Rattle.lists.specs.Tests.{and_l}
use Rattle.rules.specs.Shape.{Shape}
use Rattle.rules.specs.Blocks.{slot_bytes}
use Rattle.rules.specs.Collect.{answer}
use Rattle.rules.specs.Laws.Answers.{opens}
use Rattle.rules.proofs.Laws.Answers.{Passed}
use Rattle.rules.proofs.Laws.Lengths.{Whole, slot-length, contents-length}
use Rattle.rules.specs.Memory.{needed}
use Rattle.rules.specs.Questions.{Ask, opening, request, turn, completion, collect, save, load, ready, questions, in_hand}
use Rattle.rules.specs.Ranges.{is_kind}
use Rattle.rules.specs.Rebuild.{do_rebuild}
use Rattle.rules.specs.Request.{release}
use Rattle.rules.specs.Run.{act, perform}
use Rattle.rules.specs.State.{State, Request}
use Rattle.rules.specs.Turn.{Step, idle, no_dummy, read_for_request, read_for_job, rebuild, write_next, decide, do_step, mark_read, send}
use Rattle.memory.specs.Blocks.{block_start, block_table, block-is, block-past}
use Rattle.memory.specs.Tables.{tables_of}
use Rattle.memory.specs.Fits.{shape_of}
use Rattle.client.specs.declared.Client.{Client}
use Rattle.client.specs.View.{state_of, view, bytes_in}
use Rattle.contract.specs.Meets.{handed_to}

-- ---- The state's blocks have B bytes

-- a block ends where the memory needed does, or before
pub block_last : (h : Shape) (b : ℕ) → b ≤ h.N → block_start h b + h.B ≤ needed h
unfolding needed
block_last h b l = omega (arith, mul-le-mul_right h.B (more l), suc-mul b h.B)
  where
    more : b ≤ h.N → suc b ≤ h.N + 1
    more l = omega arith

module _ (h : Shape) (m : List ℕ) (long : needed h ≤ length m) where
  -- a block has B bytes
  block-length : (b : ℕ) → length (block_table h m b) ≡ h.B
  block-length b = go (dec_lt h.N b)
    where
      go : Dec (h.N < b) → length (block_table h m b) ≡ h.B
      go (yes k) = ap length (block-past h m b k) ∙ length-replicate h.B 0
      go (no k) =
          let e : block_start h b + h.B ≤ length m = omega (arith, block_last h b (omega arith)) in
          ap length (block-is h m b (omega arith)) ∙ length-take-le h.B (drop (block_start h b) m) (omega (arith, length-drop (block_start h b) m))

-- each block of the state has B bytes
pub state-whole : (c : Client) (m : List ℕ) → needed (state_of c m).shape ≤ length m → (b : ℕ) → length ((state_of c m).bytes b) ≡ (state_of c m).shape.B
unfolding state_of view tables_of bytes_in
state-whole c m long b = go (ltb b c.shape.n)
  where
    go : (t : Bool) → length (if t then block_table (shape_of c.shape) m b else replicate c.shape.b 0) ≡ c.shape.b
    go true = block-length (shape_of c.shape) m long b
    go false = length-replicate c.shape.b 0

-- a turn keeps them
turn-whole : (s : State) → Whole s → (x : Step) (js : List ℕ) → Whole (do_step x js s) × ((do_step x js s).shape.B ≡ s.shape.B)
unfolding do_step mark_read send do_rebuild
turn-whole s w idle js = (w, refl)
turn-whole s w no_dummy js = (w, refl)
turn-whole s w (read_for_request q ℓ i) js = (w, refl)
turn-whole s w (read_for_job q ℓ i) js = (w, refl)
turn-whole s w (rebuild q t) js = (w, refl)
turn-whole s w (write_next q t i) js = (w, refl)

-- ---- What is handed out

-- as many bytes as the buffer has fill it
pub filled : (b bs : List ℕ) → length b ≡ length bs → handed_to b bs ≡ bs
filled b bs l = ap (λ n. bs ++ drop n b) (sym l) ∙ ap (λ xs. bs ++ xs) (drop-length b) ∙ append-nil bs

-- where a call that is no open finds the state ready
pub ready_of : (s : State) (a : Ask) (m : ℕ) (ws : List ℕ) (n : ℕ) → opens a ≡ false → Passed (questions s a m ws n) → ready s m ≡ true
unfolding questions opens
ready_of s (opening h) m ws n o p = absurd (true≢false o)
ready_of s (request k b bs) m ws n o p = and_l (ready s m) (is_kind k) p.0
ready_of s turn m ws n o p = p.0
ready_of s (completion c bs) m ws n o p = and_l (ready s m) (is_kind c.kind) p.0
ready_of s collect m ws n o p = p.0
ready_of s save m ws n o p = and_l (ready s m) _ p.0
ready_of s (load form) m ws n o p = absurd (true≢false o)

pub ready-long : (s : State) (m : ℕ) → ready s m ≡ true → needed s.shape ≤ m
unfolding ready
ready-long s m e = leb-true (needed s.shape) m (and_l (leb (needed s.shape) m) _ e)

-- what a turn writes, and what a collect answers
pub written-length : (s : State) → Whole s → (js : List ℕ) (o : Option ℕ) → length (slot_bytes (act s turn js) o) ≡ s.shape.B
unfolding act perform
written-length s w js o = let x = turn-whole s w (decide s) js in slot-length (release (do_step (decide s) js s)) x.0 o ∙ x.1

pub answer-length : (s : State) → Whole s → (o : Option Request) → in_hand (λ r. true) o ≡ true → length (answer s o) ≡ s.shape.B
unfolding in_hand answer
answer-length s w none h = absurd (true≢false (sym h))
answer-length s w (some r) h = contents-length s w r.block
