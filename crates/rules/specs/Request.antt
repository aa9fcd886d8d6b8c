-- Document 01, "Request": what is taken in hand, and what holds it. Document 02, P2: where its block was found; P4: beside a rebuild. What it reads
-- is in Reader.
use Rattle.std.specs.Prelude.{Bool, false, not, ◌&&◌, List, [], ◌∷◌, ℕ, suc, ◌^◌, length, get_or, ltb, leb, eqb, if◌then◌else◌}
use Rattle.std.proofs.Math.Option.{Option, none, some, map}
use Rattle.lists.specs.Search.{any, is_none, below, member}
use Rattle.rules.specs.State.{Found, Request, State}
use Rattle.rules.specs.Setters.{◌▷◌, set_request}
use Rattle.rules.specs.Levels.{filled}
use Rattle.rules.specs.Jobs.{queued, begun_with, top_of}
use Rattle.rules.specs.Blocks.{reads_of, look_up}

-- "Request (read or write, block, contents) takes two draws below P: the block's next partition, then an eviction partition."
unfoldable pub accept : ℕ → ℕ → List ℕ → List ℕ → State → State
accept k b bs js s = s ▷ set_request (some (record { kind = k; block = b; bytes = bs; next = get_or js 0 0; evict = get_or js 1 0; level = 0; found = none; awaits = 0 }))

-- the front job is for q
unfoldable pub is_front : List ℕ → ℕ → Bool
is_front [] q = false
is_front (p ∷ _) q = eqb p q

-- Document 02, P4: "If the only job for p is at the front of the queue and hasn't drawn its order"; P7: "the run counts as one job for look-ups
-- during a rebuild": no job for p is queued but those that run together. Before it begins it is one
unfoldable pub undrawn_only : State → ℕ → Bool
undrawn_only s q = is_front s.queue q && (leb (queued s.queue q) (begun_with s.begun 1) && eqb s.sent 0)

-- "A source level": a filled level from 0 up to the first empty one, of the front job, if it is for q
unfoldable pub is_source : State → ℕ → ℕ → Bool
is_source s q ℓ = is_front s.queue q && (leb ℓ (top_of s q) && filled (s.counter q) ℓ)

-- "Other levels are read as before, but if one of them has been read 2^ℓ times since it was written, the request is held." (In states that calls
-- left none is held by that: `held-while` of crate reachable. Its own read may be the 2^ℓ-th, once it is held no longer)
unfoldable pub worn : State → ℕ → ℕ → Bool
worn s q ℓ = filled (s.counter q) ℓ && (not (is_source s q ℓ) && leb (2 ^ ℓ) (reads_of s.shape s.mark q ℓ))

-- "The request is held while a job for p is queued or running." A running job is the queue's front. P4: beside the only one, at the front and not drawn,
-- it "is no longer held", but if another level has been read that often
unfoldable pub held_for : State → ℕ → Bool
held_for s q = member q s.queue && not (undrawn_only s q && not (any (worn s q) (below s.shape.L)))

-- "Let p be the block's present partition."
unfoldable pub blocked : State → Request → Bool
blocked s r = held_for s (s.partition r.block)

-- Whether it is held is from its acceptance on read off the request: it is until its block's place has been looked up. P4: "Once it ceases to be held
-- it isn't held again"
unfoldable pub held : Request → Bool
held r = is_none r.found

-- its block was found, and n commands are outstanding then
abbrev pub with_found : Found → ℕ → Request → Request
with_found x n r = record { kind = r.kind; block = r.block; bytes = r.bytes; next = r.next; evict = r.evict; level = r.level; found = some x; awaits = n }

-- Document 02, P2: "as found when the request ceased to be held (at acceptance if it never was)": a held request that no job holds any longer is
-- released, and its block's place is looked up then. P4: "every job read sent by that moment": of what is outstanding then it awaits all of its partition
unfoldable pub released_in : State → Request → Request
released_in s r = if held r && not (blocked s r) then with_found (look_up s r.block) (length s.outstanding) r else r

-- what is done to the state after every accepted call
abbrev pub release : State → State
release s = s ▷ set_request (map (released_in s) s.request)

-- once its read to level ℓ is sent, n commands being outstanding then, the request goes on from the level above
unfoldable pub pass_level : ℕ → ℕ → Option Request → Option Request
pass_level ℓ n none = none
pass_level ℓ n (some r) = some (record { kind = r.kind; block = r.block; bytes = r.bytes; next = r.next; evict = r.evict; level = suc ℓ; found = r.found; awaits = n })

-- a request that is no longer held is in hand for a block of q
unfoldable pub released_for : (ℕ → ℕ) → Option Request → ℕ → Bool
released_for partition none q = false
released_for partition (some r) q = not (held r) && eqb (partition r.block) q
