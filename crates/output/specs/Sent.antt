-- What left the output's buffer, and what a writer's bytes grow by for it where they are known.
use Rattle.std.specs.Prelude.{Option, List, [], ℕ, ◌-◌, ◌≤◌, take, if◌then◌else◌}
use Rattle.std.specs.Io.KnownBytes.{Appends}
use Rattle.output.specs.declared.Output.{Output}
use Rattle.output.specs.Output.{total}

-- what would leave the buffer now: all that it holds, but nothing of a silent output
abbrev pub leaving : Output → List ℕ → List ℕ
leaving o out = if o.silent then [] else take o.at out

-- Known bytes grow by the first of these, as many as a writer took before it failed
abbrev pub Part : List ℕ → Option (List ℕ) → Option (List ℕ) → Type 0
Part text w w' = (n : ℕ) × Appends w w' (take n text)

-- Of what the buffer holds the first bytes have left, in order, and known bytes of the writer grow by just these; those of a silent output are dropped
pub record Sent (o : Output) (out : List ℕ) (r : Output) (w w' : Option (List ℕ)) : Type 0 where
  pub least : o.gone ≤ r.gone
  pub most : r.gone ≤ total o
  pub bytes : Appends w w' (if o.silent then [] else take (r.gone - o.gone) out)
