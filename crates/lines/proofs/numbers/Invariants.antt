use Rattle.std.proofs.Common.{◌≡◌, ◌≤◌, ◌-◌, ◌/◌, length, take}
use Rattle.tape.specs.Tape.{words_of}
use Rattle.lines.specs.Stored.{Passed}
use Rattle.lines.proofs.numbers.Given as goal

abbrev pub invariant-loop-at : goal.invariant-loop-at
invariant-loop-at l = (l.k ≤ l.most) × (l.most ≡ length l.initial.room / 2) × Passed l.line l.at (take l.k (words_of l.room))

abbrev pub decreases-loop-at : goal.decreases-loop-at
decreases-loop-at l = length l.line - l.at
