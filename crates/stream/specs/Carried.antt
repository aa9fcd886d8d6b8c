-- What a run reads of a reader's bytes and adds to a writer's, where these are known.
use Rattle.std.specs.Prelude.{◌≡◌, Bool, true, false, Option, Some, List, [], ◌++◌, ℕ, ◌+◌, ◌*◌, ◌≤◌, ◌<◌, length, take, if◌then◌else◌}
use Rattle.std.specs.Io.KnownBytes.{Appends, Consumes}
use Rattle.stream.specs.declared.State.{State}
use Rattle.stream.specs.declared.Brought.{Brought}
use Rattle.stream.specs.declared.Brought.TheVariants.{Whole, Part, TooLong}
use Rattle.output.specs.Printed.{printed}
use Rattle.output.specs.Paged.{paged}
use Rattle.output.specs.Sent as O
use Rattle.stream.specs.Stream.{Buffers}
use Rattle.stream.specs.History.{given, waiting, taken, History}

-- the bytes that a turn reads: only one that finds no newline reads, and all of it waits then
abbrev pub brought : Brought → State → List ℕ → List ℕ
brought (Whole k i) r chunk = []
brought (Part k) r chunk = waiting r chunk
brought TooLong r chunk = []

-- A turn reads no other bytes, and hands over the first of those that the output's buffer held
pub record Carries (s : State) (chunk line : List ℕ) (b : Buffers) (found : Brought) (r : State) (chunk' : List ℕ) (u u' w w' : Option (List ℕ)) : Type 0 where
  pub read : Consumes u u' (brought found r chunk')
  pub sent : O.Sent s.output b.out r.output w w'
  -- it takes a byte or reads one, or the session ends
  pub steps : r.done ≡ false → length (waiting s chunk) + 1 ≤ 2 * length (taken found (waiting s chunk)) + length (waiting r chunk')
  -- where the session ends and no read failed, nothing that the reader still has prints anything or changes the session that is left
  pub closes : r.done ≡ true → r.failed ≡ false → (host past more : List ℕ) → History host past s chunk line b → u' ≡ Some more
      → given host ((past ++ taken found (waiting s chunk)) ++ (waiting r chunk' ++ more)) ≡ given host (past ++ taken found (waiting s chunk))

-- Unless a read failed, or so much was read that the turns were used up, all that the reader still has and what was read of it and not taken prints nothing
abbrev pub Closed : List ℕ → List ℕ → List ℕ → Bool → Option (List ℕ) → Type 0
Closed host input rest failed u' = failed ≡ false → length (input ++ rest) < 4503599627370496 → (more : List ℕ) → u' ≡ Some more → given host ((input ++ rest) ++ more) ≡ given host input

-- Where a session was followed: the input was read, and maybe bytes behind it; and the writer's bytes grew by those that left
pub record Handed (host : List ℕ) (quiet : Bool) (input : List ℕ) (r : State) (u u' w w' : Option (List ℕ)) : Type 0 where
  pub rest : List ℕ
  pub read : Consumes u u' (input ++ rest)
  pub sent : Appends w w' (if quiet then [] else take r.output.gone (printed host input))
  pub closed : Closed host input rest r.failed u'

-- Where a write failed: the writer's bytes grew by the first of those that some input prints, and it was read, and maybe bytes behind it
pub record Broken (host : List ℕ) (quiet : Bool) (u u' w w' : Option (List ℕ)) : Type 0 where
  pub input : List ℕ
  pub rest : List ℕ
  pub read : Consumes u u' (input ++ rest)
  pub sent : O.Part (if quiet then [] else printed host input) w w'

-- The writer's bytes grew by n, by just those that an input prints, and it was read, and maybe bytes behind it
pub record Answered (host : List ℕ) (u u' w w' : Option (List ℕ)) (n : ℕ) : Type 0 where
  pub input : List ℕ
  pub rest : List ℕ
  pub read : Consumes u u' (input ++ rest)
  pub sent : Appends w w' (printed host input)
  pub all : n ≡ length (printed host input)

-- .. by just the page that an input leaves
pub record PageShown (host : List ℕ) (u u' w w' : Option (List ℕ)) (n : ℕ) : Type 0 where
  pub input : List ℕ
  pub rest : List ℕ
  pub read : Consumes u u' (input ++ rest)
  pub sent : Appends w w' (paged host input)
  pub all : n ≡ length (paged host input)

-- Where the write of the page failed
pub record PageBroken (host : List ℕ) (u u' w w' : Option (List ℕ)) : Type 0 where
  pub input : List ℕ
  pub rest : List ℕ
  pub read : Consumes u u' (input ++ rest)
  pub sent : O.Part (paged host input) w w'
