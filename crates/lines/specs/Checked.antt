-- Lines of document 01's worked session, and malformed lines, as the checker computes them.
use Rattle.std.specs.Prelude.{◌≡◌, refl, List, [], ◌∷◌, map, ℕ, None, Some}
use Rattle.lists.specs.Tests.{between}
use Rattle.lines.specs.Lines.{opens, reads, writes, turns, collects, malformed, front, fields, letter, others, at_most, digit, digits, begins, number, also, numbers, up_to, hex_digit, pair, pairs, contents, opened, read, stored, written, bare, by_letter, line_of, tape_of}

-- one name under which all definitions unfold
unfoldable lines : Unit {0}
unfolding between front fields letter others at_most digit digits begins number also numbers up_to hex_digit pair pairs contents opened read stored written bare by_letter line_of tape_of
lines = tt

-- "T 0 0 0 1 0 0 0" and "T"; "T ", "t" and "" are no tape
unfoldable pub tapes : List (List ℕ)
tapes =
    ((84 ∷ 32 ∷ 48 ∷ 32 ∷ 48 ∷ 32 ∷ 48 ∷ 32 ∷ 49 ∷ 32 ∷ 48 ∷ 32 ∷ 48 ∷ 32 ∷ 48 ∷ [])
    ∷ (84 ∷ [])
    ∷ (84 ∷ 32 ∷ [])
    ∷ (116 ∷ [])
    ∷ []
    ∷ [])

pub tapes-told : map tape_of tapes ≡ (Some (0 ∷ 0 ∷ 0 ∷ 1 ∷ 0 ∷ 0 ∷ 0 ∷ []) ∷ Some [] ∷ None ∷ None ∷ None ∷ [])
unfolding lines tapes
tapes-told = refl

-- "O 1 1 1 1 1 1", "W 0 07", "C", "t", "R 0", and with the largest number "R 65535"
unfoldable pub formed : List (List ℕ)
formed =
    ((79 ∷ 32 ∷ 49 ∷ 32 ∷ 49 ∷ 32 ∷ 49 ∷ 32 ∷ 49 ∷ 32 ∷ 49 ∷ 32 ∷ 49 ∷ [])
    ∷ (87 ∷ 32 ∷ 48 ∷ 32 ∷ 48 ∷ 55 ∷ [])
    ∷ (67 ∷ [])
    ∷ (116 ∷ [])
    ∷ (82 ∷ 32 ∷ 48 ∷ [])
    ∷ (82 ∷ 32 ∷ 54 ∷ 53 ∷ 53 ∷ 51 ∷ 53 ∷ [])
    ∷ [])

pub formed-told : map line_of formed ≡ (opens (record { N = 1; P = 1; L = 1; B = 1; E = 1; W = 1 }) ∷ writes 0 (7 ∷ []) ∷ collects ∷ turns ∷ reads 0 ∷ reads 65535 ∷ [])
unfolding lines formed
formed-told = refl

-- each pair is a byte, high digit first: "W 12 0a9f"
pub pairs-told : line_of (87 ∷ 32 ∷ 49 ∷ 50 ∷ 32 ∷ 48 ∷ 97 ∷ 57 ∷ 102 ∷ []) ≡ writes 12 (10 ∷ 159 ∷ [])
unfolding lines
pairs-told = refl

-- "", "T", "R 00", "R 0 ", "R  0", " R 0", "R 65536", "R", "W 0", "W 0 ", "W 0 0", "W 0 0G", "W 0 AB", "O 1 1 1 1 1", "t ", "RR 0", "x"
unfoldable pub departing : List (List ℕ)
departing =
    ([]
    ∷ (84 ∷ [])
    ∷ (82 ∷ 32 ∷ 48 ∷ 48 ∷ [])
    ∷ (82 ∷ 32 ∷ 48 ∷ 32 ∷ [])
    ∷ (82 ∷ 32 ∷ 32 ∷ 48 ∷ [])
    ∷ (32 ∷ 82 ∷ 32 ∷ 48 ∷ [])
    ∷ (82 ∷ 32 ∷ 54 ∷ 53 ∷ 53 ∷ 51 ∷ 54 ∷ [])
    ∷ (82 ∷ [])
    ∷ (87 ∷ 32 ∷ 48 ∷ [])
    ∷ (87 ∷ 32 ∷ 48 ∷ 32 ∷ [])
    ∷ (87 ∷ 32 ∷ 48 ∷ 32 ∷ 48 ∷ [])
    ∷ (87 ∷ 32 ∷ 48 ∷ 32 ∷ 48 ∷ 71 ∷ [])
    ∷ (87 ∷ 32 ∷ 48 ∷ 32 ∷ 65 ∷ 66 ∷ [])
    ∷ (79 ∷ 32 ∷ 49 ∷ 32 ∷ 49 ∷ 32 ∷ 49 ∷ 32 ∷ 49 ∷ 32 ∷ 49 ∷ [])
    ∷ (116 ∷ 32 ∷ [])
    ∷ (82 ∷ 82 ∷ 32 ∷ 48 ∷ [])
    ∷ (120 ∷ [])
    ∷ [])

pub departing-told : map line_of departing ≡ map (λ l. malformed) departing
unfolding lines departing
departing-told = refl
