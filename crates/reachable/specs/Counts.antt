-- The figures of a page in states that calls left: those that wait are the list of waiting blocks, and a begun job is queued.
use Rattle.std.specs.Prelude.{ℕ, if◌then◌else◌}
use Rattle.std.proofs.Math.Option.{Option, none, some}
use Rattle.rules.specs.Request.{is_source}
use Rattle.rules.specs.State.{State}
use Rattle.rules.specs.Turn.{Step, idle, no_dummy, read_for_request, read_for_job, rebuild, write_next}

-- the partition of the job whose command a step sends; document 02, P4: a request's read of a source level "counts as read for the job too, and begins it"
abbrev pub job_of : State → Step → Option ℕ
job_of s idle = none
job_of s no_dummy = none
job_of s (read_for_request q ℓ i) = if is_source s q ℓ then some q else none
job_of s (read_for_job q ℓ i) = some q
job_of s (rebuild q ls) = some q
job_of s (write_next q t i) = some q
