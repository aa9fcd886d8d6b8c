-- No call but an open changes the shape, and a completion nothing of the request in hand but what it awaits.
use Rattle.std.specs.Prelude.{◌≡◌, refl, Bool, true, false, List, [], ◌∷◌, ℕ, eqb, if◌then◌else◌}
use Rattle.std.proofs.Common.{ap, ◌∙◌, true≢false}
use Rattle.std.proofs.Math.Option.{Option, none, some, map}
use Rattle.rules.specs.Blocks.{holder}
use Rattle.rules.specs.Collect.{collected, finish}
use Rattle.rules.specs.Completion.{complete, complete_read, complete_write, completed, gather_bytes, finish_job, end_job, job_done, awaits_less}
use Rattle.rules.specs.Laws.Answers.{opens}
use Rattle.rules.specs.Questions.{Ask, opening, request, turn, completion, collect, save, load}
use Rattle.rules.specs.Rebuild.{do_rebuild}
use Rattle.rules.specs.Request.{accept}
use Rattle.rules.specs.Run.{act, perform}
use Rattle.rules.specs.Shape.{Shape}
use Rattle.rules.specs.State.{State, Command, Request}
use Rattle.rules.specs.Turn.{Step, idle, no_dummy, read_for_request, read_for_job, rebuild, write_next, decide, do_step, mark_read, send}

turn-shape : (s : State) (x : Step) (js : List ℕ) → (do_step x js s).shape ≡ s.shape
unfolding do_step mark_read send do_rebuild
turn-shape s idle js = refl
turn-shape s no_dummy js = refl
turn-shape s (read_for_request q ℓ i) js = refl
turn-shape s (read_for_job q ℓ i) js = refl
turn-shape s (rebuild q ls) js = refl
turn-shape s (write_next q t i) js = refl

-- a request but for the commands that it awaits
abbrev pub unawaited : Option Request → Option Request
unawaited none = none
unawaited (some r) = some (record { kind = r.kind; block = r.block; bytes = r.bytes; next = r.next; evict = r.evict; level = r.level; found = r.found; awaits = 0 })

abbrev pub both : State → Shape × Option Request
both s = (s.shape, unawaited s.request)

-- a completion changes neither the shape nor, but for what it awaits, the request in hand
pub complete-keeps : (s : State) (c : Command) (bs : List ℕ) → both (complete c bs s) ≡ both s
unfolding complete complete_read complete_write completed gather_bytes finish_job end_job
complete-keeps s c bs = go (eqb c.kind 1) (holder s c.partition c.level c.slot) s.queue
  where
    s' : State
    s' = completed c s

    less : (o : Option Request) → unawaited (map (awaits_less c s.outstanding) o) ≡ unawaited o
    less none = refl
    less (some r) = refl

    ended : (q : ℕ) (t : Bool) → both (if t then end_job q s' else s') ≡ both s'
    ended q true = refl
    ended q false = refl

    first : (t : Bool) (b : Option ℕ) (qs : List ℕ) → both (if t then gather_bytes b bs s' else finish_job qs s') ≡ both s'
    first true none qs = refl
    first true (some b) qs = refl
    first false b [] = refl
    first false b (q ∷ qs) = ended q (job_done s' q)

    go : (t : Bool) (b : Option ℕ) (qs : List ℕ) → both (if t then gather_bytes b bs s' else finish_job qs s') ≡ both s
    go t b qs = first t b qs ∙ ap (λ (o : Option Request). (s.shape, o)) (less s.request)

collect-shape : (s : State) (o : Option Request) → (collected o s).shape ≡ s.shape
unfolding collected finish
collect-shape s none = refl
collect-shape s (some r) = refl

pub act-shape : (s : State) (a : Ask) (js : List ℕ) → opens a ≡ false → (act s a js).shape ≡ s.shape
unfolding act perform accept opens
act-shape s (opening h) js o = absurd (true≢false o)
act-shape s (request k b bs) js o = refl
act-shape s turn js o = turn-shape s (decide s) js
act-shape s (completion c bs) js o = ap (λ (x : Shape × Option Request). x.0) (complete-keeps s c bs)
act-shape s collect js o = collect-shape s s.request
act-shape s save js o = refl
act-shape s (load form) js o = absurd (true≢false o)
