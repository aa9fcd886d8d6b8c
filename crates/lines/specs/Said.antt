-- What the code's answers say.
use Rattle.std.specs.Prelude.{List, ℕ, ◌≤◌, ◌<◌, take, Option, None, Some, length, eqb, if◌then◌else◌}
use Rattle.memory.specs.Fits.{shape_of}
use Rattle.lines.specs.Lines as Lines
use Rattle.lines.specs.Lines.{opens, reads, writes, turns, collects, malformed}
use Rattle.lines.specs.declared.Line.{Line}
use Rattle.lines.specs.declared.Line.TheVariants.{Open, Read, Write, Turn, Collect, Malformed}

-- the line that an answer says, with the bytes that it leaves behind: a write's contents are the first of them
abbrev pub said : Line → List ℕ → Lines.Line
said (Open h) bytes = opens (shape_of h)
said (Read b) bytes = reads b
said (Write b k) bytes = writes b (take k bytes)
said Turn bytes = turns
said Collect bytes = collects
said Malformed bytes = malformed

-- the ranges of an answer's numbers, for code that counts with them: a write has 1 to 1,024 bytes
abbrev pub Small : Line → Type 0
Small (Open h) = (h.n < 65536) × (h.p < 65536) × (h.l < 65536) × (h.b < 65536) × (h.e < 65536) × (h.w < 65536)
Small (Read b) = b < 65536
Small (Write b k) = (b < 65536) × (0 < k) × (k ≤ Lines.contents_room)
Small Turn = Unit {0}
Small Collect = Unit {0}
Small Malformed = Unit {0}

-- the first elements of a list, as many as an answer tells, if it tells a number
abbrev pub firsts : Option ℕ → List ℕ → Option (List ℕ)
firsts None xs = None
firsts (Some k) xs = Some (take k xs)

-- a list, if there is one and it has just n elements
unfoldable pub exactly : ℕ → Option (List ℕ) → Option (List ℕ)
exactly n None = None
exactly n (Some vs) = if eqb (length vs) n then Some vs else None
