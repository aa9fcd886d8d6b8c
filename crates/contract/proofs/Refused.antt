-- How a refused call comes to meet its contract. It rests on `meets-no`, which falls with `refused_with`, and so stands in a file of its own.
use Rattle.std.specs.Prelude.{◌≡◌, Err, List, ℕ}
use Rattle.rules.specs.State.{State}
use Rattle.rules.specs.Questions.{Ask, number}
use Rattle.rules.specs.Run.{refuse}
use Rattle.client.specs.declared.Client.{Client}
use Rattle.client.specs.View.{state_of}
use Rattle.contract.specs.declared.Refusal.{Refusal}
use Rattle.contract.specs.Answers.{number_of, refusal-some, answered}
use Rattle.contract.specs.Meets.{call_of, Meets, meets-no}

-- it is refused for this reason
pub meets-refusal : (c : Client) (s : State) (a : Ask) (m tape b : List ℕ) (e : Refusal) → number_of e ≡ number s (call_of a m tape b) → state_of c m ≡ refuse s a
    → Meets c s a m tape b (answered c (Err e)) m b
meets-refusal c s a m tape b e k r = meets-no c s a m tape b (number_of e) k (refusal-some e) r
