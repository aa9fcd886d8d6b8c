-- Document 01, "A session, whole": what a line says. A line is a list of bytes, without the newline that ends it.
use Rattle.std.specs.Prelude.{Bool, true, false, not, List, [], ◌∷◌, ℕ, ◌+◌, ◌-◌, ◌*◌, length, get_or, eqb, leb, if◌then◌else◌, Option, None, Some}
use Rattle.lists.specs.Tests.{between}
use Rattle.rules.specs.Shape.{Shape}

-- "O (N P L B E W), R (block), W (block, contents in hexadecimal), t (a turn, ..), C (collect)"; "a line that departs from this is malformed"
pub data Line : Type 0 where
  opens : Shape → Line
  reads : ℕ → Line
  writes : ℕ → List ℕ → Line
  turns : Line
  collects : Line
  malformed : Line

-- ---- "lines of fields parted by one blank"

-- x in front of the first field
unfoldable pub front : ℕ → List (List ℕ) → List (List ℕ)
front x [] = (x ∷ []) ∷ []
front x (f ∷ fs) = (x ∷ f) ∷ fs

-- a line, split at each blank. A blank too many leaves an empty field, which is no letter, no number and no contents
unfoldable pub fields : List ℕ → List (List ℕ)
fields [] = [] ∷ []
fields (x ∷ xs) = elim (eqb x 32) [ true ↦ [] ∷ fields xs | false ↦ front x (fields xs) ]

-- "told by its first letter": the byte that is the first field, alone; else a blank, which is no letter
unfoldable pub letter : List (List ℕ) → ℕ
letter [] = 32
letter ([] ∷ fs) = 32
letter ((x ∷ []) ∷ fs) = x
letter ((x ∷ y ∷ ys) ∷ fs) = 32

-- the fields behind the first
unfoldable pub others : List (List ℕ) → List (List ℕ)
others [] = []
others (f ∷ fs) = fs

-- ---- "Numbers are digits without a needless leading zero, at most 65,535"

-- v, if there is one and it is at most m
unfoldable pub at_most : ℕ → Option ℕ → Option ℕ
at_most m None = None
at_most m (Some v) = if leb v m then Some v else None

-- the digits 0 to 9 are bytes 48 to 57
unfoldable pub digit : ℕ → Option ℕ
digit x = if between 48 57 x then Some (x - 48) else None

-- the number that digits say, behind digits that said v
unfoldable pub digits : ℕ → List ℕ → Option ℕ
digits v [] = Some v
digits v (x ∷ xs) = elim (digit x) [ None ↦ None | Some d ↦ digits (v * 10 + d) xs ]

-- there is a digit, and a zero stands first only where it stands alone
unfoldable pub begins : List ℕ → Bool
begins [] = false
begins (x ∷ []) = true
begins (x ∷ y ∷ ys) = not (eqb x 48)

unfoldable pub number : List ℕ → Option ℕ
number s = if begins s then at_most 65535 (digits 0 s) else None

-- v in front of a list, if there are both
unfoldable pub also : Option ℕ → Option (List ℕ) → Option (List ℕ)
also None o = None
also (Some v) None = None
also (Some v) (Some vs) = Some (v ∷ vs)

-- the numbers that fields say
unfoldable pub numbers : List (List ℕ) → Option (List ℕ)
numbers [] = Some []
numbers (f ∷ fs) = also (number f) (numbers fs)

-- a list, if there is one and it has at most n elements
unfoldable pub up_to : ℕ → Option (List ℕ) → Option (List ℕ)
up_to n None = None
up_to n (Some vs) = if leb (length vs) n then Some vs else None

-- ---- "contents are 1 to 1,024 pairs of lower-case hexadecimal digits"

-- the letters a to f are bytes 97 to 102, and say 10 to 15
unfoldable pub hex_digit : ℕ → Option ℕ
hex_digit x = if between 97 102 x then Some (x - 87) else digit x

-- the high digit stands first
unfoldable pub pair : Option ℕ → Option ℕ → Option ℕ
pair None o = None
pair (Some h) None = None
pair (Some h) (Some l) = Some (h * 16 + l)

unfoldable pub pairs : List ℕ → Option (List ℕ)
pairs [] = Some []
pairs (x ∷ []) = None
pairs (x ∷ y ∷ ys) = also (pair (hex_digit x) (hex_digit y)) (pairs ys)

-- "1 to 1,024 pairs"
abbrev pub contents_room : ℕ
contents_room = 1024

unfoldable pub contents : List ℕ → Option (List ℕ)
contents [] = None
contents (x ∷ xs) = up_to contents_room (pairs (x ∷ xs))

-- ---- "A session line is told by its first letter"

-- O: six numbers
unfoldable pub opened : Option (List ℕ) → Line
opened None = malformed
opened (Some ns) = if eqb (length ns) 6 then opens (record { N = get_or ns 0 0; P = get_or ns 1 0; L = get_or ns 2 0; B = get_or ns 3 0; E = get_or ns 4 0; W = get_or ns 5 0 }) else malformed

-- R: one number
unfoldable pub read : Option (List ℕ) → Line
read None = malformed
read (Some ns) = if eqb (length ns) 1 then reads (get_or ns 0 0) else malformed

-- W: a number and contents
unfoldable pub stored : Option ℕ → Option (List ℕ) → Line
stored None o = malformed
stored (Some b) None = malformed
stored (Some b) (Some bytes) = writes b bytes

unfoldable pub written : List (List ℕ) → Line
written [] = malformed
written (f ∷ []) = malformed
written (f ∷ g ∷ []) = stored (number f) (contents g)
written (f ∷ g ∷ h ∷ hs) = malformed

-- t and C: nothing more
unfoldable pub bare : Line → List (List ℕ) → Line
bare l [] = l
bare l (f ∷ fs) = malformed

-- the letters O R W t C are bytes 79 82 87 116 67
unfoldable pub by_letter : ℕ → List (List ℕ) → Line
by_letter x fs =
    if eqb x 79 then opened (numbers fs)
    else (if eqb x 82 then read (numbers fs)
    else (if eqb x 87 then written fs
    else (if eqb x 116 then bare turns fs
    else (if eqb x 67 then bare collects fs
    else malformed))))

-- a line of a session but a T, which "may only be the first line"
unfoldable pub line_of : List ℕ → Line
line_of l = by_letter (letter (fields l)) (others (fields l))

-- ---- "T (words of the tape)", "T has at most 8,192 of them", of two bytes each. The letter T is byte 84
abbrev pub most_words : ℕ
most_words = 8192

abbrev pub tape_room : ℕ
tape_room = 16384

-- the tape that a first line says, if it says one
unfoldable pub tape_of : List ℕ → Option (List ℕ)
tape_of l = if eqb (letter (fields l)) 84 then up_to most_words (numbers (others (fields l))) else None
