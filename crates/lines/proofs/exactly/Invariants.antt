use Rattle.std.proofs.Common.{◌≡◌, length, take}
use Rattle.lines.specs.Stored.{Passed}
use Rattle.lines.proofs.exactly.Given as goal

abbrev pub invariant-loop-k : goal.invariant-loop-k
invariant-loop-k g l = (length l.found ≡ g.row.N) × Passed l.line l.at (take l.k l.found)
