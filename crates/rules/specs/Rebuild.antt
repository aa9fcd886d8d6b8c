-- Document 01, "Turn", and document 02, P7: the rebuild that the jobs of a run make of their partition q.
use Rattle.std.specs.Prelude.{◌&&◌, ◌||◌, List, ◌++◌, map, [], ◌∷◌, ℕ, zero, suc, ◌+◌, ◌-◌, ◌^◌, min, get_or, replicate, take, drop, leb, eqb}
use Rattle.std.proofs.Math.Option.{Option, none, some}
use Rattle.lists.specs.Search.{find, keep, without, below, member, index_of}
use Rattle.lists.specs.Tables.{put_all}
use Rattle.rules.specs.Shape.{Shape, slots, cell, offset}
use Rattle.rules.specs.State.{Place, stored, State}
use Rattle.rules.specs.Setters.{◌▷◌, set_place, set_waiting, set_order, set_mark, set_holds, set_begun, set_sent}
use Rattle.rules.specs.Draws.{new_order}
use Rattle.rules.specs.Levels.{filled, source_levels}
use Rattle.rules.specs.Jobs.{joined, top_of}
use Rattle.rules.specs.Blocks.{blocks_in, is_unread}

-- the slots of the levels below n: level and slot, "levels ascending, and slots ascending within a level"
unfoldable pub places : ℕ → List (ℕ × ℕ)
places zero = []
places (suc n) = places n ++ map (λ i. (n, i)) (below (slots n))

-- "It reads every unread slot of the sources, levels ascending, and slots ascending within a level": it goes over them once, and this is the
-- next unread one from where it is. "Filled levels up to t are the sources."
unfoldable pub next_unread : State → ℕ → ℕ → Option (ℕ × ℕ)
next_unread s q t = find (λ p. leb s.cursor (offset p.0 p.1) && (filled (s.counter q) p.0 && is_unread s q p.0 p.1)) (places (suc t))

unfoldable pub unread : State → ℕ → Option (ℕ × ℕ)
unread s q = next_unread s q (top_of s q)

-- "Up to j waiting blocks are taken, longest first, while the partition stores fewer than 2^(L−1)"
unfoldable pub chosen : State → ℕ → List ℕ
chosen s q = take (min (joined s q) (2 ^ (s.shape.L - 1) - blocks_in s q s.shape.L)) (keep (λ b. eqb (s.partition b) q) s.waiting)

-- what the slots of these levels of q hold
unfoldable pub entries_in : (ℕ → ℕ → ℕ) → List ℕ → List ℕ
entries_in at [] = []
entries_in at (ℓ ∷ ls) = map (at ℓ) (below (slots ℓ)) ++ entries_in at ls

-- "The gathered blocks", "by ascending number": the chosen ones, and those that a slot of a source holds
unfoldable pub gather_from : List ℕ → List ℕ → ℕ → List ℕ
gather_from chosen entries n = keep (λ b. member b chosen || member (suc b) entries) (below n)

unfoldable pub gathered : State → ℕ → List ℕ
gathered s q = gather_from (chosen s q) (entries_in (λ ℓ i. s.holds (cell s.shape q ℓ i)) (source_levels (top_of s q) (s.counter q))) s.shape.N

-- A level that is written: its order, and its blocks
pub record Fill : Type 0 where
  pub level : ℕ
  pub order : List ℕ
  pub blocks : List ℕ

-- "The levels .. are written, highest first, each with its own order, all drawn, highest first. Blocks go by ascending number into the highest
-- of these levels until it has 2^ℓ, then the next": from the levels, the numbers drawn and the gathered blocks
unfoldable pub fills : List ℕ → List ℕ → List ℕ → List Fill
fills [] js bs = []
fills (ℓ ∷ ls) js bs = record { level = ℓ; order = new_order (slots ℓ) js; blocks = take (2 ^ ℓ) bs } ∷ fills ls (drop (slots ℓ - 1) js) (drop (2 ^ ℓ) bs)

-- "Gives the gathered blocks their new place": "items of a level are its blocks by ascending number, then its dummies", so block number k of them
-- is item k, at the slot that the order gives it
unfoldable pub item_place : ℕ → List ℕ → Option ℕ → Place → Place
item_place t o none old = old
item_place t o (some k) old = stored t (get_or o k 0)

unfoldable pub new_place : ℕ → List ℕ → List ℕ → (ℕ → Place) → ℕ → Place
new_place t blocks o f b = item_place t o (index_of b blocks) (f b)

-- what the slot of item k holds then
unfoldable pub item_holds : List ℕ → Option ℕ → ℕ
item_holds blocks none = 0
item_holds blocks (some k) = get_or (map suc blocks) k 0

-- what the n slots of a level hold, slot 0 first
unfoldable pub new_holds : ℕ → List ℕ → List ℕ → List ℕ
new_holds n blocks o = map (λ i. item_holds blocks (index_of i o)) (below n)

-- n cells, from cell a on, hold nothing
unfoldable pub cleared : ℕ → ℕ → (ℕ → ℕ) → ℕ → ℕ
cleared a n f = put_all a (replicate n 0) f

-- the places after these levels are written, one after the other
unfoldable pub new_places : List Fill → (ℕ → Place) → ℕ → Place
new_places [] f = f
new_places (x ∷ xs) f = new_places xs (new_place x.level x.blocks x.order f)

-- a table after some levels of q are written, one after the other: each with its entries
module _ {A : Type 0} (h : Shape) (q : ℕ) (level : A → ℕ) (entries : A → List ℕ) where
  unfoldable pub write_levels : List A → (ℕ → ℕ) → ℕ → ℕ
  write_levels [] f = f
  write_levels (x ∷ xs) f = write_levels xs (put_all (cell h q (level x) 0) (entries x) f)

unfoldable pub new_orders : Shape → ℕ → List Fill → (ℕ → ℕ) → ℕ → ℕ
new_orders h q xs f = write_levels h q (λ (x : Fill). x.level) (λ (x : Fill). x.order) xs f

unfoldable pub new_marks : Shape → ℕ → List ℕ → (ℕ → ℕ) → ℕ → ℕ
new_marks h q ls f = write_levels h q (λ ℓ. ℓ) (λ ℓ. replicate (slots ℓ) 1) ls f

unfoldable pub new_held : Shape → ℕ → List Fill → (ℕ → ℕ) → ℕ → ℕ
new_held h q xs f = write_levels h q (λ (x : Fill). x.level) (λ (x : Fill). new_holds (slots x.level) x.blocks x.order) xs f

-- the chosen blocks wait no longer
unfoldable pub leave : List ℕ → List ℕ → List ℕ
leave [] xs = xs
leave (b ∷ bs) xs = leave bs (without (eqb b) xs)

-- The rebuild of q: the levels up to t hold nothing more, and then the slots of the written ones are written and unread
unfoldable pub do_rebuild : ℕ → List ℕ → List Fill → State → State
do_rebuild q ls xs s =
    s ▷ set_place (new_places xs s.place)
    ▷ set_waiting (leave (chosen s q) s.waiting)
    ▷ set_order (new_orders s.shape q xs s.order)
    ▷ set_mark (new_marks s.shape q ls s.mark)
    ▷ set_holds (new_held s.shape q xs (cleared (cell s.shape q 0 0) (slots (suc (top_of s q)) - 2) s.holds))
    ▷ set_begun (joined s q)
    ▷ set_sent 1
