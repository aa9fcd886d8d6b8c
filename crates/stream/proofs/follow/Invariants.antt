use Rattle.std.proofs.Common.{◌≡◌, false, List, ℕ, ◌+◌, ◌*◌, ◌≤◌, length}
use Rattle.output.specs.Output.{total}
use Rattle.stream.specs.Stream.{Ready, buffers}
use Rattle.stream.specs.History.{History, waiting, zeros}
use Rattle.stream.proofs.Carry.{Moved}
use Rattle.stream.proofs.follow.Given as goal

-- there is a history; the session has not ended; whether the output is silent; a turn prints at most 1,027 bytes; what was read and written so far; and each turn
-- took or read a byte
abbrev pub invariant-loop-turn : goal.invariant-loop-turn
invariant-loop-turn g l =
    Ready l.s l.tape × (l.s.done ≡ false) × (total l.s.output ≤ 1027 * l._turn) × (l.s.output.silent ≡ l.silent)
    × ((past : List ℕ) × History zeros past l.s l.chunk l.line (buffers l.tape l.memory l.host l.out)
    × Moved zeros past l.silent l.s l.chunk (g.R.Read.remaining l.initial.reader) (g.R.Read.remaining l.reader) (g.W.Write.contents l.initial.writer) (g.W.Write.contents l.writer)
    × (l._turn ≤ 2 * length past + length (waiting l.s l.chunk)))
