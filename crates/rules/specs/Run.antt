-- Document 01, "The five calls", and document 02's save and load: what a call answers and leaves, and a list of calls.
use Rattle.std.specs.Prelude.{List, [], ◌∷◌, ℕ, eqb, length, if◌then◌else◌}
use Rattle.std.proofs.Math.Option.{Option, none, some}
use Rattle.rules.specs.State.{Command, cmd, write, Found, found_nowhere, State, closed}
use Rattle.rules.specs.Setters.{◌▷◌}
use Rattle.rules.specs.Draws.{Drawn, draws}
use Rattle.rules.specs.Blocks.{holder, slot_bytes}
use Rattle.rules.specs.Open.{fresh}
use Rattle.rules.specs.Request.{accept, release}
use Rattle.rules.specs.Turn.{decide, command, do_step}
use Rattle.rules.specs.Completion.{complete}
use Rattle.rules.specs.Collect.{collected, answer, carried}
use Rattle.rules.specs.Form.Payload.{saved_form}
use Rattle.rules.specs.Form.Loading.{loaded_form}
use Rattle.rules.specs.Questions.{Ask, opening, request, turn, completion, collect, save, load, Call, bounds, number}

pub record Outcome : Type 0 where
  pub number : ℕ
  pub taken : ℕ  -- words
  pub command : Command
  pub bytes : List ℕ  -- put into the buffer, from its start
  pub found : Found  -- where the block of a collected request was found

-- What an accepted call does, by the numbers that it drew
unfoldable pub perform : State → Ask → List ℕ → State
perform s (opening h) js = fresh h js
perform s (request k b bs) js = s ▷ accept k b bs js
perform s turn js = s ▷ do_step (decide s) js
perform s (completion c bs) js = s ▷ complete c bs
perform s collect js = s ▷ collected s.request
perform s save js = s
perform s (load form) js = loaded_form form

-- The state after it: a request that need not be held any longer is released
unfoldable pub act : State → Ask → List ℕ → State
act s a js = s ▷ (λ s. perform s a js) ▷ release

-- "State and buffers remain as they were. A refused open hands back a closed state." "A refused load hands back a closed state."
unfoldable pub refuse : State → Ask → State
refuse s (opening h) = closed
refuse s (request k b bs) = s
refuse s turn = s
refuse s (completion c bs) = s
refuse s collect = s
refuse s save = s
refuse s (load form) = closed

unfoldable pub sent_command : State → Ask → Command
sent_command s (opening h) = cmd 0 0 0 0
sent_command s (request k b bs) = cmd 0 0 0 0
sent_command s turn = command (decide s)
sent_command s (completion c bs) = cmd 0 0 0 0
sent_command s collect = cmd 0 0 0 0
sent_command s save = cmd 0 0 0 0
sent_command s (load form) = cmd 0 0 0 0

-- "A write's B bytes go into a buffer lent with the turn; a read doesn't touch it."
unfoldable pub written : State → Command → List ℕ
written s c = if eqb c.kind write then slot_bytes s (holder s c.partition c.level c.slot) else []

-- what an accepted call puts into the buffer; s' is the state after it
unfoldable pub handed : State → Ask → State → List ℕ
handed s (opening h) s' = []
handed s (request k b bs) s' = []
handed s turn s' = written s' (command (decide s))
handed s (completion c bs) s' = []
handed s collect s' = answer s s.request
handed s save s' = saved_form s  -- "a longer buffer keeps its tail"
handed s (load form) s' = []

-- "Saving, which reports the form's length (0 if refused)"
unfoldable pub form_length : Outcome → ℕ
form_length o = length o.bytes

-- where the block was found: "collect hands it out with the contents, or nowhere when refused"
unfoldable pub handed_found : State → Ask → Found
handed_found s (opening h) = found_nowhere
handed_found s (request k b bs) = found_nowhere
handed_found s turn = found_nowhere
handed_found s (completion c bs) = found_nowhere
handed_found s collect = carried s.request
handed_found s save = found_nowhere
handed_found s (load form) = found_nowhere

unfoldable pub numbers_of : Option Drawn → List ℕ
numbers_of none = []
numbers_of (some d) = d.numbers

unfoldable pub taken_of : Option Drawn → ℕ
taken_of none = 0
taken_of (some d) = d.taken

-- "A refusal reports 0 words and a command of zeros."
unfoldable pub refused : ℕ → Outcome
refused n = record { number = n; taken = 0; command = cmd 0 0 0 0; bytes = []; found = found_nowhere }

unfoldable pub accepted : State → Ask → Option Drawn → State × Outcome
accepted s a d = let s' : State = act s a (numbers_of d) in
    (s', record { number = 0; taken = taken_of d; command = sent_command s a; bytes = handed s a s'; found = handed_found s a })

unfoldable pub step : State → Call → State × Outcome
step s c = let n : ℕ = number s c in
    if eqb n 0 then accepted s c.ask (draws (bounds s c.ask) c.words) else (refuse s c.ask, refused n)

-- The outcomes of a list of calls, "each given the state that the last one left"
unfoldable pub run : State → List Call → List Outcome
run s [] = []
run s (c ∷ cs) = let r : State × Outcome = step s c in r.1 ∷ run r.0 cs

unfoldable pub after : State → List Call → State
after s [] = s
after s (c ∷ cs) = after (step s c).0 cs
