-- Document 01, "A session, whole": what the session program prints. A text is a list of bytes, and a byte a number.
use Rattle.std.specs.Prelude.{true, false, List, [], ◌∷◌, ◌++◌, ℕ, zero, suc, ◌+◌, ◌/◌, ◌%◌, eqb, ltb, if◌then◌else◌}
use Rattle.rules.specs.State.{Command, read}

abbrev pub blank : ℕ
blank = 32

abbrev pub newline : ℕ
newline = 10

-- "lower-case hexadecimal digits": from `0` on, and from ten on from `a` on
unfoldable pub digit_of : ℕ → ℕ
digit_of d = if ltb d 10 then 48 + d else 87 + d

-- the last k digits of a number, and fewer where it has fewer
unfoldable pub digits_of : ℕ → ℕ → List ℕ
digits_of zero n = []
digits_of (suc k) n = elim (ltb n 10) [ true ↦ digit_of n ∷ [] | false ↦ digits_of k (n / 10) ++ (digit_of (n % 10) ∷ []) ]

-- "Numbers are digits without a needless leading zero, at most 65,535". Five digits: all, of a number below 100,000
unfoldable pub decimal : ℕ → List ℕ
decimal n = digits_of 5 n

-- "pairs of lower-case hexadecimal digits": two a byte, the high one first
unfoldable pub hexadecimal : List ℕ → List ℕ
hexadecimal [] = []
hexadecimal (b ∷ bs) = digit_of (b / 16) ∷ digit_of (b % 16) ∷ hexadecimal bs

-- "fields parted by one blank", "Every line ends with a newline": what follows the first field of a line
unfoldable pub further : List (List ℕ) → List ℕ
further [] = newline ∷ []
further (f ∷ fs) = blank ∷ (f ++ further fs)

-- "the kind r or w": 1 is read, and 2 write
unfoldable pub letter_of : ℕ → ℕ
letter_of k = if eqb k read then 114 else 119

-- "It prints a line for each but T: the number", "A refused line prints its number alone": a refusal, and an accepted O, R or W
unfoldable pub number_text : ℕ → List ℕ
number_text n = decimal n ++ further []

-- "for t the kind r or w, partition, level, slot": an accepted t
unfoldable pub command_text : Command → List ℕ
command_text c = decimal 0 ++ further ((letter_of c.kind ∷ []) ∷ decimal c.partition ∷ decimal c.level ∷ decimal c.slot ∷ [])

-- "for C the contents in hexadecimal": an accepted C
unfoldable pub contents_text : List ℕ → List ℕ
contents_text xs = decimal 0 ++ further (hexadecimal xs ∷ [])
