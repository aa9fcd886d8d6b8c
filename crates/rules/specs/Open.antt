-- Document 01, "Open draws a partition for each block, 0 upward."
use Rattle.std.specs.Prelude.{List, [], ℕ, get_or, replicate}
use Rattle.std.proofs.Math.Option.{none}
use Rattle.rules.specs.Shape.{Shape}
use Rattle.rules.specs.State.{State, nowhere}

-- "A fresh state has all counters 0, all blocks nowhere, an empty queue."
unfoldable pub fresh : Shape → List ℕ → State
fresh h js = record {
  shape = h;
  partition = λ b. get_or js b 0;
  place = λ b. nowhere;
  bytes = λ b. replicate h.B 0;
  waiting = [];
  counter = λ q. 0;
  order = λ c. 0;
  mark = λ c. 0;
  holds = λ c. 0;
  queue = [];
  begun = 0;
  cursor = 0;
  sent = 0;
  outstanding = [];
  request = none;
}
