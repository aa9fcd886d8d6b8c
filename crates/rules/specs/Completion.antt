-- Document 01, "Completion names a kind and a slot (partition, level, slot), with B bytes for a read."
use Rattle.std.specs.Prelude.{Bool, not, ◌&&◌, List, [], ◌∷◌, ℕ, eqb, if◌then◌else◌}
use Rattle.std.proofs.Math.Option.{Option, none, some, map}
use Rattle.lists.specs.Search.{any, without, first_left}
use Rattle.lists.specs.Tables.{put}
use Rattle.rules.specs.State.{Command, read, write, Request, State}
use Rattle.rules.specs.Setters.{◌▷◌, set_bytes, set_counter, set_queue, set_begun, set_cursor, set_sent, set_outstanding, set_request}
use Rattle.rules.specs.Levels.{grown}
use Rattle.rules.specs.Jobs.{joined, levels_of, leave_queue, slot_count}
use Rattle.rules.specs.Blocks.{holder}

unfoldable pub is_command : Command → Command → Bool
is_command c d = eqb c.kind d.kind && eqb c.partition d.partition && eqb c.level d.level && eqb c.slot d.slot

-- of the commands that a request awaits this one is done
abbrev pub awaits_less : Command → List Command → Request → Request
awaits_less c os r = record { kind = r.kind; block = r.block; bytes = r.bytes; next = r.next; evict = r.evict; level = r.level; found = r.found; awaits = first_left (is_command c) r.awaits os }

unfoldable pub completed : Command → State → State
completed c s = s ▷ set_request (map (awaits_less c s.outstanding) s.request) ▷ set_outstanding (without (is_command c) s.outstanding)

-- a read's bytes are those of the block in its slot
unfoldable pub gather_bytes : Option ℕ → List ℕ → State → State
gather_bytes none bs s = s
gather_bytes (some b) bs s = s ▷ set_bytes (put b bs s.bytes)

unfoldable pub complete_read : Command → List ℕ → State → State
complete_read c bs s = s ▷ completed c ▷ gather_bytes (holder s c.partition c.level c.slot) bs

-- "When the last write completes": the front job, for q, has sent all its writes, and none is outstanding
unfoldable pub job_done : State → ℕ → Bool
job_done s q = eqb s.sent (slot_count (levels_of s q)) && not (any (λ c. eqb c.kind write) s.outstanding)

-- "At its end the counter grows by j (a full one falls as before) and all j leave the queue."
unfoldable pub end_job : ℕ → State → State
end_job q s =
    s ▷ set_begun 0
    ▷ set_counter (put q (grown s.shape (s.counter q) (joined s q)) s.counter)
    ▷ set_queue (leave_queue q (joined s q) s.queue)
    ▷ set_cursor 0
    ▷ set_sent 0

unfoldable pub finish_job : List ℕ → State → State
finish_job [] s = s
finish_job (q ∷ qs) s = if job_done s q then end_job q s else s

unfoldable pub complete_write : Command → State → State
complete_write c s = s ▷ completed c ▷ finish_job s.queue

unfoldable pub complete : Command → List ℕ → State → State
complete c bs s = if eqb c.kind read then complete_read c bs s else complete_write c s
