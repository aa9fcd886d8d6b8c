-- Every run can be served: put into its completions of reads the bytes that the host has, and the host is honest. What the run is otherwise,
-- words, lengths and calls, is as it was.
use Rattle.std.specs.Prelude.{length, eqb, if◌then◌else◌}
use mathlib.Core.List.{List, [], ◌∷◌}
use Prim.Native.Nat.{ℕ, zero, suc}
use Rattle.rules.specs.Questions.{Ask, opening, request, turn, completion, collect, save, load, Call}
use Rattle.rules.specs.Resumes.{saved_by}
use Rattle.rules.specs.Run.{Outcome, step}
use Rattle.rules.specs.State.{State, read}
use Rattle.array.specs.Claim.{Slots, sends}

-- n bytes: these, with zeros behind them if they are fewer
unfoldable pub fit : ℕ → List ℕ → List ℕ
fit zero bs = []
fit (suc n) [] = 0 ∷ fit n []
fit (suc n) (b ∷ bs) = b ∷ fit n bs

-- a completion of a read brings what the host has, as many bytes as before; a load is of what was just saved
unfoldable pub brings : Slots → List ℕ → Ask → Ask
brings x y (opening h) = opening h
brings x y (request k b bs) = request k b bs
brings x y turn = turn
brings x y (completion c bs) = completion c (if eqb c.kind read then fit (length bs) (x c.partition c.level c.slot) else bs)
brings x y collect = collect
brings x y save = save
brings x y (load form) = load y

abbrev pub serve : Slots → List ℕ → Call → Call
serve x y c = record { ask = brings x y c.ask; memory = c.memory; words = c.words; buffer = c.buffer }

-- the run, with a host that has the bytes last sent to each slot (x has those before it), and a caller who loads what was just saved (y by the call
-- before it)
unfoldable pub served : Slots → List ℕ → State → List Call → List Call
served x y s [] = []
served x y s (c ∷ cs) =
    let d : Call = serve x y c in
    let r : State × Outcome = step s d in
    d ∷ served (sends x r.1) (saved_by d.ask r.1) r.0 cs
