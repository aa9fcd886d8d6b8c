-- Texts of some numbers, and of the worked session's lines (document 01, "A session, whole"), computed.
use Rattle.std.specs.Prelude.{◌≡◌, refl, [], ◌∷◌}
use Rattle.rules.specs.State.{cmd, read, write}
use Rattle.printing.specs.Text.{digit_of, digits_of, decimal, hexadecimal, further, letter_of, number_text, command_text, contents_text}

decimals :
    (decimal 0 ∷ decimal 9 ∷ decimal 10 ∷ decimal 511 ∷ decimal 10000 ∷ decimal 65535 ∷ [])
    ≡ (48 ∷ [])
    ∷ (57 ∷ [])
    ∷ (49 ∷ 48 ∷ [])
    ∷ (53 ∷ 49 ∷ 49 ∷ [])
    ∷ (49 ∷ 48 ∷ 48 ∷ 48 ∷ 48 ∷ [])
    ∷ (54 ∷ 53 ∷ 53 ∷ 51 ∷ 53 ∷ [])
    ∷ []
unfolding decimal digits_of digit_of
decimals = refl

-- `0a9fff`
bytes : hexadecimal (10 ∷ 159 ∷ 255 ∷ []) ≡ 48 ∷ 97 ∷ 57 ∷ 102 ∷ 102 ∷ 102 ∷ []
unfolding hexadecimal digit_of
bytes = refl

-- `0`, of a request
accepted : number_text 0 ≡ 48 ∷ 10 ∷ []
unfolding number_text further decimal digits_of digit_of
accepted = refl

-- `10`, of a refusal
refused : number_text 10 ≡ 49 ∷ 48 ∷ 10 ∷ []
unfolding number_text further decimal digits_of digit_of
refused = refl

-- `0 00` and `0 07`
collected : (contents_text (0 ∷ []) ∷ contents_text (7 ∷ []) ∷ []) ≡ (48 ∷ 32 ∷ 48 ∷ 48 ∷ 10 ∷ []) ∷ (48 ∷ 32 ∷ 48 ∷ 55 ∷ 10 ∷ []) ∷ []
unfolding contents_text further hexadecimal decimal digits_of digit_of
collected = refl

-- `0 w 0 0 0`, `0 w 0 0 1`, `0 r 0 0 0`, `0 r 0 0 1`
turns :
    (command_text (cmd write 0 0 0) ∷ command_text (cmd write 0 0 1) ∷ command_text (cmd read 0 0 0) ∷ command_text (cmd read 0 0 1) ∷ [])
    ≡ (48 ∷ 32 ∷ 119 ∷ 32 ∷ 48 ∷ 32 ∷ 48 ∷ 32 ∷ 48 ∷ 10 ∷ [])
    ∷ (48 ∷ 32 ∷ 119 ∷ 32 ∷ 48 ∷ 32 ∷ 48 ∷ 32 ∷ 49 ∷ 10 ∷ [])
    ∷ (48 ∷ 32 ∷ 114 ∷ 32 ∷ 48 ∷ 32 ∷ 48 ∷ 32 ∷ 48 ∷ 10 ∷ [])
    ∷ (48 ∷ 32 ∷ 114 ∷ 32 ∷ 48 ∷ 32 ∷ 48 ∷ 32 ∷ 49 ∷ 10 ∷ [])
    ∷ []
unfolding command_text further letter_of decimal digits_of digit_of
turns = refl

-- `0 r 63 7 510`: each number in its place
places : command_text (cmd read 63 7 510) ≡ 48 ∷ 32 ∷ 114 ∷ 32 ∷ 54 ∷ 51 ∷ 32 ∷ 55 ∷ 32 ∷ 53 ∷ 49 ∷ 48 ∷ 10 ∷ []
unfolding command_text further letter_of decimal digits_of digit_of
places = refl
