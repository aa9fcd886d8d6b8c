use Rattle.std.proofs.Common.{◌≡◌, ◌+◌, ◌≤◌, ◌++◌, take}
use Rattle.stream.specs.Stream.{line_room, Plain}
use Rattle.stream.proofs.scan.Given as goal

abbrev pub invariant-loop-i : goal.invariant-loop-i
invariant-loop-i l = (l.len + l.i ≤ line_room) × (take (l.len + l.i) l.line ≡ take l.len l.initial.line ++ take l.i l.bytes) × Plain l.i l.bytes
