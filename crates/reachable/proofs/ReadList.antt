-- Document 02, P6: the reads that the partition reader gives for a request in the state in which it is released; RequestReads says that they are sent.
use Rattle.std.specs.Prelude.{◌≡◌, false, List, ℕ}
use Rattle.std.proofs.Math.Option.{some}
use Rattle.rules.specs.Laws.Awaited.{Holds}
use Rattle.rules.specs.Laws.Found.{Between}
use Rattle.rules.specs.Questions.{Call}
use Rattle.rules.specs.Reader.{read_partition}
use Rattle.rules.specs.Request.{held}
use Rattle.rules.specs.Run.{step}
use Rattle.rules.specs.State.{State, Request}
use Rattle.reachable.proofs.Reached.{reachable}
use Rattle.reachable.proofs.ReadsLeft.{remaining}
use Rattle.reachable.proofs.ReadsRun.{released-first, remaining-all}
use Rattle.reachable.specs.Terms.{CallsLeft}

-- call k is the one after which r is released, and calls ks follow, up to its collect
module _ (left : State) (calls : CallsLeft left) (k : Call) (before : Holds left.request) (r : Request) (in_hand : (step left k).0.request ≡ some r) (u : held r ≡ false) (ks : List Call) (between : Between (step left k).0 ks) where
  abbrev pub list : List (ℕ × ℕ)
  list = read_partition (step left k).0 r.block

  -- no level has been passed then: what r has yet to read is all of them
  pub whole : remaining (step left k).0 r ≡ list
  whole = remaining-all (step left k).0 r (released-first left (reachable calls) k before r in_hand u).0
