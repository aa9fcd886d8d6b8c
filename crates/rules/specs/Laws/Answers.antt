-- What holds of every call's answer, on every state: its number, what a refusal leaves, the words taken.
use Rattle.std.specs.Prelude.{Bool, true, false}
use Rattle.rules.specs.Questions.{Ask, opening, request, turn, completion, collect, save, load}

-- the calls that look at no state before them: an open, and a load
unfoldable pub opens : Ask → Bool
opens (opening h) = true
opens (request k b bs) = false
opens turn = false
opens (completion c bs) = false
opens collect = false
opens save = false
opens (load form) = true
