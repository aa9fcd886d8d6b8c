-- Document 02, P2: "Nothing the host is sent may change by it." What is left of an outcome and of a state if it is not said where a block was found,
-- and runs in which no block's place is looked up to tell it: the same questions and the same `perform`, and a request that ceases to be held.
use Rattle.std.specs.Prelude.{Bool, not, ◌&&◌, List, [], ◌∷◌, ℕ, length, eqb, if◌then◌else◌}
use Rattle.std.proofs.Math.Option.{Option, none, some, map}
use Rattle.rules.specs.State.{found_nowhere, Request, State}
use Rattle.rules.specs.Setters.{◌▷◌, set_request}
use Rattle.rules.specs.Draws.{Drawn, draws}
use Rattle.rules.specs.Request.{blocked, held, with_found}
use Rattle.rules.specs.Questions.{Ask, Call, bounds, number}
use Rattle.rules.specs.Run.{Outcome, perform, refuse, sent_command, handed, numbers_of, taken_of, refused}

-- a call's number, words, command and bytes
abbrev pub untold : Outcome → Outcome
untold o = record { number = o.number; taken = o.taken; command = o.command; bytes = o.bytes; found = found_nowhere }

-- a request of which is only said whether it is held
abbrev pub held_only : Request → Request
held_only r = record {
  kind = r.kind;
  block = r.block;
  bytes = r.bytes;
  next = r.next;
  evict = r.evict;
  level = r.level;
  found = if held r then none else some found_nowhere;
  awaits = r.awaits;
}

-- the state without where the block was found
abbrev pub without_found : State → State
without_found s = s ▷ set_request (map held_only s.request)

-- a held request that no job holds any longer is released, and its block's place is not looked up
unfoldable pub unseen_in : State → Request → Request
unseen_in s r = if held r && not (blocked s r) then with_found found_nowhere (length s.outstanding) r else r

abbrev pub release_unseen : State → State
release_unseen s = s ▷ set_request (map (unseen_in s) s.request)

-- a call that looks nothing up, and its outcome
unfoldable pub performed : State → Ask → Option Drawn → State × Outcome
performed s a d = let s' : State = release_unseen (perform s a (numbers_of d)) in
    (s', record { number = 0; taken = taken_of d; command = sent_command s a; bytes = handed s a s'; found = found_nowhere })

unfoldable pub step_unseen : State → Call → State × Outcome
step_unseen s c = let n : ℕ = number s c in
    if eqb n 0 then performed s c.ask (draws (bounds s c.ask) c.words) else (refuse s c.ask, refused n)

-- The outcomes of a list of such calls: nothing is looked up or carried of where a block is
unfoldable pub run_unseen : State → List Call → List Outcome
run_unseen s [] = []
run_unseen s (c ∷ cs) = let r : State × Outcome = step_unseen (without_found s) c in r.1 ∷ run_unseen r.0 cs
