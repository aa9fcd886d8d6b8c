-- Document 01, of well-formed requests: "among such requests only 8 may depend on names".
use Rattle.std.specs.Prelude.{◌≡◌, ◌⊎◌, List, ℕ, length}
use Rattle.rules.specs.Questions.{request, Call, number}
use Rattle.rules.specs.State.{State}
use Rattle.hiding.specs.Claim.{WellFormed, ShortWords}

-- Two well-formed requests to one state, lent as much memory and as many words of 16 bits, get the same number, or one of them gets 8
abbrev pub OnlyEight : Type 0
OnlyEight = (s : State) (c d : Call) (k b k' b' : ℕ) (bs bs' : List ℕ) → c.ask ≡ request k b bs → d.ask ≡ request k' b' bs'
    → WellFormed s.shape k b (length bs) → WellFormed s.shape k' b' (length bs') → c.memory ≡ d.memory → length c.words ≡ length d.words
    → ShortWords c.words → ShortWords d.words
    → (number s c ≡ number s d) ⊎ ((number s c ≡ 8) ⊎ (number s d ≡ 8))
