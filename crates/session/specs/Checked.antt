-- Document 01's worked session: its input gives its output.
use Rattle.std.specs.Prelude.{◌≡◌, refl, List, [], ◌∷◌, ℕ}
use Rattle.rules.specs.Unfold.{model}
use Rattle.memory.specs.Parts.{replaced}
use Rattle.lists.specs.Tests.{between}
use Rattle.lines.specs.Lines.{front, fields, letter, others, at_most, digit, digits, begins, number, also, numbers, up_to, hex_digit, pair, pairs, contents, opened, read, stored, written, bare, by_letter, line_of, tape_of}
use Rattle.printing.specs.Text.{digit_of, digits_of, decimal, hexadecimal, further, letter_of, number_text, command_text, contents_text}
use Rattle.session.specs.Session as S
use Rattle.session.specs.Session.{session}

-- the lines, without their newlines
unfoldable pub input : List (List ℕ)
input =
    ((84 ∷ 32 ∷ 48 ∷ 32 ∷ 48 ∷ 32 ∷ 48 ∷ 32 ∷ 49 ∷ 32 ∷ 48 ∷ 32 ∷ 48 ∷ 32 ∷ 48 ∷ [])
    ∷ (79 ∷ 32 ∷ 49 ∷ 32 ∷ 49 ∷ 32 ∷ 49 ∷ 32 ∷ 49 ∷ 32 ∷ 49 ∷ 32 ∷ 49 ∷ [])
    ∷ (87 ∷ 32 ∷ 48 ∷ 32 ∷ 48 ∷ 55 ∷ [])
    ∷ (67 ∷ [])
    ∷ (116 ∷ [])
    ∷ (116 ∷ [])
    ∷ (116 ∷ [])
    ∷ (116 ∷ [])
    ∷ (116 ∷ [])
    ∷ (116 ∷ [])
    ∷ (82 ∷ 32 ∷ 48 ∷ [])
    ∷ (116 ∷ [])
    ∷ (67 ∷ [])
    ∷ [])

-- the text printed, a line each
unfoldable pub output : List ℕ
output =
    (48 ∷ 10
    ∷ 48 ∷ 10
    ∷ 48 ∷ 32 ∷ 48 ∷ 48 ∷ 10
    ∷ 48 ∷ 32 ∷ 119 ∷ 32 ∷ 48 ∷ 32 ∷ 48 ∷ 32 ∷ 48 ∷ 10
    ∷ 48 ∷ 32 ∷ 119 ∷ 32 ∷ 48 ∷ 32 ∷ 48 ∷ 32 ∷ 49 ∷ 10
    ∷ 48 ∷ 32 ∷ 114 ∷ 32 ∷ 48 ∷ 32 ∷ 48 ∷ 32 ∷ 48 ∷ 10
    ∷ 48 ∷ 32 ∷ 114 ∷ 32 ∷ 48 ∷ 32 ∷ 48 ∷ 32 ∷ 49 ∷ 10
    ∷ 48 ∷ 32 ∷ 119 ∷ 32 ∷ 48 ∷ 32 ∷ 48 ∷ 32 ∷ 48 ∷ 10
    ∷ 48 ∷ 32 ∷ 119 ∷ 32 ∷ 48 ∷ 32 ∷ 48 ∷ 32 ∷ 49 ∷ 10
    ∷ 48 ∷ 10
    ∷ 48 ∷ 32 ∷ 114 ∷ 32 ∷ 48 ∷ 32 ∷ 48 ∷ 32 ∷ 49 ∷ 10
    ∷ 48 ∷ 32 ∷ 48 ∷ 55 ∷ 10
    ∷ [])

-- whatever two bytes the host has at first
pub worked : (a b : ℕ) → session (a ∷ b ∷ []) input ≡ output
unfolding model replaced between front fields letter others at_most digit digits begins number also numbers up_to hex_digit pair pairs contents opened read stored written bare by_letter line_of tape_of digit_of digits_of decimal hexadecimal further letter_of number_text command_text contents_text S.serves S.lent S.start S.fetched S.stored S.went S.answered S.brought S.completed S.replied S.turned S.collected S.gives S.ends S.prints S.begun session input output
worked a b = refl
