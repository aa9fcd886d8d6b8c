-- What a turn and a completion leave of the client's numbers, by the kind of the command.
use Rattle.std.specs.Prelude.{◌≡◌, refl, Bool, true, false, List, [], ◌∷◌, ℕ, eqb, if◌then◌else◌}
use Rattle.std.proofs.Math.Option.{Option, none, some}
use Rattle.std.proofs.Common.{arith, eq-eqb}
use Rattle.rules.specs.Blocks.{holder}
use Rattle.rules.specs.Completion.{completed, gather_bytes, complete_read, job_done, end_job, finish_job, complete_write, complete}
use Rattle.rules.specs.Rebuild.{do_rebuild}
use Rattle.rules.specs.State.{State, Command}
use Rattle.rules.specs.Turn.{Step, idle, no_dummy, read_for_request, read_for_job, rebuild, write_next, command, mark_read, send, do_step}

-- ---- A turn

pub step-queue : (s : State) (x : Step) (js : List ℕ) → (do_step x js s).queue ≡ s.queue
unfolding do_step mark_read send do_rebuild
step-queue s idle js = refl
step-queue s no_dummy js = refl
step-queue s (read_for_request q ℓ i) js = refl
step-queue s (read_for_job q ℓ i) js = refl
step-queue s (rebuild q t) js = refl
step-queue s (write_next q t i) js = refl

-- one that sends a read
pub read_stays : (s : State) (x : Step) (js : List ℕ) → (command x).kind ≡ 1 → ((do_step x js s).sent ≡ s.sent) × ((do_step x js s).waiting ≡ s.waiting)
unfolding do_step mark_read send do_rebuild command
read_stays s idle js e = (refl, refl)
read_stays s no_dummy js e = (refl, refl)
read_stays s (read_for_request q ℓ i) js e = (refl, refl)
read_stays s (read_for_job q ℓ i) js e = (refl, refl)
read_stays s (rebuild q t) js e = absurd (omega arith)
read_stays s (write_next q t i) js e = absurd (omega arith)

-- one that sends none
pub write-stays : (s : State) (x : Step) (js : List ℕ) → ((command x).kind ≡ 1 → ⊥) → ((do_step x js s).cursor ≡ s.cursor) × ((do_step x js s).request ≡ s.request)
unfolding do_step mark_read send do_rebuild command
write-stays s idle js n = (refl, refl)
write-stays s no_dummy js n = (refl, refl)
write-stays s (read_for_request q ℓ i) js n = absurd (n refl)
write-stays s (read_for_job q ℓ i) js n = absurd (n refl)
write-stays s (rebuild q t) js n = (refl, refl)
write-stays s (write_next q t i) js n = (refl, refl)

-- ---- A completion

pub complete-waiting : (s : State) (c : Command) (bs : List ℕ) → (complete c bs s).waiting ≡ s.waiting
unfolding complete complete_read complete_write completed gather_bytes finish_job end_job
complete-waiting s c bs = go (eqb c.kind 1) (holder s c.partition c.level c.slot) s.queue
  where
    s' : State
    s' = completed c s

    ended : (q : ℕ) (t : Bool) → (if t then end_job q s' else s').waiting ≡ s.waiting
    ended q true = refl
    ended q false = refl

    go : (t : Bool) (b : Option ℕ) (qs : List ℕ) → (if t then gather_bytes b bs s' else finish_job qs s').waiting ≡ s.waiting
    go true none qs = refl
    go true (some b) qs = refl
    go false b [] = refl
    go false b (q ∷ qs) = ended q (job_done s' q)

-- that of a read
pub read-done-stays : (s : State) (c : Command) (bs : List ℕ) → c.kind ≡ 1 → ((complete c bs s).queue ≡ s.queue) × ((complete c bs s).cursor ≡ s.cursor) × ((complete c bs s).sent ≡ s.sent) × ((complete c bs s).begun ≡ s.begun)
unfolding complete complete_read completed gather_bytes
read-done-stays s c bs e = rw (eq-eqb c.kind 1 e) (go (holder s c.partition c.level c.slot))
  where
    go : (b : Option ℕ) → ((gather_bytes b bs (completed c s)).queue ≡ s.queue) × ((gather_bytes b bs (completed c s)).cursor ≡ s.cursor) × ((gather_bytes b bs (completed c s)).sent ≡ s.sent) × ((gather_bytes b bs (completed c s)).begun ≡ s.begun)
    go none = (refl, refl, refl, refl)
    go (some b) = (refl, refl, refl, refl)
