-- Document 01, "Turn sends one command": what it is, and what it changes.
use Rattle.std.specs.Prelude.{◌||◌, List, [], ◌∷◌, ◌++◌, ℕ, suc, length, get_or, eqb, if◌then◌else◌}
use Rattle.std.proofs.Math.Option
use Rattle.std.proofs.Math.Option.{Option, none, some}
use Rattle.lists.specs.Search.{any}
use Rattle.lists.specs.Tables.{put}
use Rattle.rules.specs.Shape.{cell, offset}
use Rattle.rules.specs.State.{Command, cmd, read, write, Request, State}
use Rattle.rules.specs.Setters.{◌▷◌, set_mark, set_begun, set_cursor, set_sent, set_outstanding, set_request}
use Rattle.rules.specs.Jobs.{joined, levels_of, write_at, orders_bounds}
use Rattle.rules.specs.Request.{held, is_source, pass_level, released_for}
use Rattle.rules.specs.Reader.{levels_left, slot_read}
use Rattle.rules.specs.Rebuild.{unread, gathered, fills, do_rebuild}

pub data Step : Type 0 where
  idle : Step  -- there is no command to send
  no_dummy : Step  -- the request lacks an unread dummy, or in a source an unread item
  read_for_request : ℕ → ℕ → ℕ → Step  -- partition, level, slot
  read_for_job : ℕ → ℕ → ℕ → Step
  rebuild : ℕ → List ℕ → Step  -- partition, written levels, highest first: draws the orders and sends the first write
  write_next : ℕ → ℕ → ℕ → Step

-- ---- What a turn does next

unfoldable pub read_step : ℕ → ℕ → Option ℕ → Step
read_step q ℓ none = no_dummy
read_step q ℓ (some i) = read_for_request q ℓ i

-- "One read to each filled level of p, level 0 first": the read of the first of the levels that are left, of the slot that `slot_of` says. A block waiting or
-- nowhere has its place in none
unfoldable pub first_read : ℕ → (ℕ → Option ℕ) → List ℕ → Option Step
first_read q slot_of [] = none
first_read q slot_of (ℓ ∷ _) = some (read_step q ℓ (slot_of ℓ))

unfoldable pub request_step : State → Option Request → Option Step
request_step s none = none
request_step s (some r) = let q = s.partition r.block in
    if held r then none else first_read q (slot_read s q (s.place r.block)) (levels_left s r)

-- the job's next read, if a slot of its sources is left to read
unfoldable pub gather_step : ℕ → Option (ℕ × ℕ) → Step → Step
gather_step q none after = after
gather_step q (some p) after = read_for_job q p.0 p.1

-- "When those have completed, the next turn .. draws .. and sends the first of .. writes": nothing of q is outstanding. P4: "and
-- the job draws its order only after the request is collected"
unfoldable pub rebuild_step : State → ℕ → Step
rebuild_step s q = if any (λ c. eqb c.partition q) s.outstanding || released_for s.partition s.request q then idle else rebuild q (levels_of s q)

-- ".. of 2^(t+1) writes, slots ascending"; with several levels, "highest first"
unfoldable pub next_write : ℕ → Option (ℕ × ℕ) → Step
next_write q none = idle
next_write q (some p) = write_next q p.0 p.1

unfoldable pub write_step : State → ℕ → Step
write_step s q = next_write q (write_at (levels_of s q) s.sent)

-- "The front job, for partition q, runs so"
unfoldable pub job_step : State → List ℕ → Step
job_step s [] = idle
job_step s (q ∷ _) = if eqb s.sent 0 then gather_step q (unread s q) (rebuild_step s q) else write_step s q

-- "A request's reads go before a job's commands."
unfoldable pub decide : State → Step
decide s = Option.get_or (request_step s s.request) (job_step s s.queue)

unfoldable pub command : Step → Command
command idle = cmd 0 0 0 0
command no_dummy = cmd 0 0 0 0
command (read_for_request q ℓ i) = cmd read q ℓ i
command (read_for_job q ℓ i) = cmd read q ℓ i
command (rebuild q ls) = cmd write q (get_or ls 0 0) 0
command (write_next q t i) = cmd write q t i

-- the bounds of its draws: "draws an order of 2^(t+1) slots" for each written level
unfoldable pub step_bounds : Step → List ℕ
step_bounds idle = []
step_bounds no_dummy = []
step_bounds (read_for_request q ℓ i) = []
step_bounds (read_for_job q ℓ i) = []
step_bounds (rebuild q ls) = orders_bounds ls
step_bounds (write_next q t i) = []

-- ---- What a turn changes

unfoldable pub send : Command → State → State
send c s = s ▷ set_outstanding (s.outstanding ++ (c ∷ []))

-- "A slot counts as read once its read is sent."
unfoldable pub mark_read : ℕ → ℕ → ℕ → State → State
mark_read q ℓ i s = s ▷ set_mark (put (cell s.shape q ℓ i) 0 s.mark)

-- "A job has begun once one of its commands is sent"; P4: a request's read of a source's slot "counts as read for the job too, and begins it"
unfoldable pub do_step : Step → List ℕ → State → State
do_step idle js s = s
do_step no_dummy js s = s
do_step (read_for_request q ℓ i) js s =
    s ▷ mark_read q ℓ i
    ▷ set_request (pass_level ℓ (suc (length s.outstanding)) s.request)
    ▷ set_begun (if is_source s q ℓ then joined s q else s.begun)
    ▷ send (cmd read q ℓ i)
do_step (read_for_job q ℓ i) js s = s ▷ mark_read q ℓ i ▷ set_cursor (suc (offset ℓ i)) ▷ set_begun (joined s q) ▷ send (cmd read q ℓ i)
do_step (rebuild q ls) js s = s ▷ do_rebuild q ls (fills ls js (gathered s q)) ▷ send (cmd write q (get_or ls 0 0) 0)
do_step (write_next q t i) js s = s ▷ set_sent (suc s.sent) ▷ send (cmd write q t i)
