-- What the calls leave as it was.
use Rattle.std.specs.Prelude.{◌≡◌, refl, Bool, true, false, List, [], ◌∷◌, ℕ, eqb, if◌then◌else◌}
use Rattle.std.proofs.Math.Option.{Option, none, some, map}
use Rattle.rules.specs.Open.{fresh}
use Rattle.rules.specs.Completion
use Rattle.rules.specs.Completion.{complete}
use Rattle.rules.proofs.Laws.Shapes.{unawaited}
use Rattle.rules.specs.State.{State, Command, Place, Request}
use Rattle.rules.specs.Blocks
use Rattle.rules.specs.Shape.{Shape}

-- ---- a completion

-- what it leaves of a state: of the request all but what it awaits
pub record Rest : Type 0 where
  pub shape : Shape
  pub partition : ℕ → ℕ
  pub place : ℕ → Place
  pub waiting : List ℕ
  pub order : ℕ → ℕ
  pub mark : ℕ → ℕ
  pub holds : ℕ → ℕ
  pub request : Option Request

abbrev pub rest_of : State → Rest
rest_of s = record {
  shape = s.shape;
  partition = s.partition;
  place = s.place;
  waiting = s.waiting;
  order = s.order;
  mark = s.mark;
  holds = s.holds;
  request = unawaited s.request;
}

pub complete-rest : (s : State) (c : Command) (bs : List ℕ) → rest_of (complete c bs s) ≡ rest_of s
unfolding complete Completion.complete_read Completion.complete_write Completion.completed Completion.gather_bytes Completion.finish_job Completion.end_job
complete-rest s c bs = go (eqb c.kind 1) (Blocks.holder s c.partition c.level c.slot) s.queue
  where
    s' : State
    s' = Completion.completed c s

    less : (o : Option Request) → unawaited (map (Completion.awaits_less c s.outstanding) o) ≡ unawaited o
    less none = refl
    less (some r) = refl

    first : rest_of s' ≡ rest_of s
    first = rw (less s.request)

    ended : (q : ℕ) (t : Bool) → rest_of (if t then Completion.end_job q s' else s') ≡ rest_of s
    ended q true = first
    ended q false = first

    go : (t : Bool) (b : Option ℕ) (qs : List ℕ) → rest_of (if t then Completion.gather_bytes b bs s' else Completion.finish_job qs s') ≡ rest_of s
    go true none qs = first
    go true (some b) qs = first
    go false b [] = first
    go false b (q ∷ qs) = ended q (Completion.job_done s' q)

-- ---- the shape of a fresh state

pub fresh-shape : (h : Shape) (js : List ℕ) → (fresh h js).shape ≡ h
unfolding fresh
fresh-shape h js = refl
