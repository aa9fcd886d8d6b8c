use Rattle.std.proofs.Common.{◌≡◌, ◌≤◌, drop}
use Rattle.lines.specs.Lines.{digits as digits_of}
use Rattle.lines.proofs.digits.Given as goal

abbrev pub invariant-loop-x : goal.invariant-loop-x
invariant-loop-x l = (l.v ≤ 65535) × (digits_of 0 l.s ≡ digits_of l.v (drop l.x-index l.s))
