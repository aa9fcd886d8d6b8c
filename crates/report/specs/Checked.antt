-- Pages that the checker computes. Their texts are written from document 02, not from the definitions.
use Rattle.std.specs.Prelude.{◌≡◌, refl, [], ◌∷◌, ℕ, ◌%◌, zero, suc, take}
use Rattle.rules.specs.State.{State, Place, nowhere, stored, closed}
use Rattle.rules.specs.Run.{after}
use Rattle.rules.specs.Unfold.{model, shape}
use Rattle.rules.proofs.Checked.Worked.{worked-calls}
use Rattle.printing.specs.Text.{digit_of, digits_of, decimal}
use Rattle.printing.specs.Columns.{column, columns, partition_line, last_line}
use Rattle.report.specs.Page.{partition_lines, page}

-- Document 01's worked session at its end: the block was collected last, so it waits, and the jobs of that request are queued. Two jobs have finished,
-- from counter 0 and from a full one, which falls to 1
--
--    |   0     1     0     1     2
--    |all      0     0     1
pub worked-page : page (after closed worked-calls) ≡
    (32 ∷ 32 ∷ 32 ∷ 48 ∷ 32 ∷ 32 ∷ 32 ∷ 32 ∷ 32 ∷ 49 ∷ 32 ∷ 32 ∷ 32 ∷ 32 ∷ 32 ∷ 48 ∷ 32 ∷ 32 ∷ 32 ∷ 32 ∷ 32 ∷ 49 ∷ 32 ∷ 32 ∷ 32 ∷ 32 ∷ 32 ∷ 50 ∷ 10
    ∷ 97 ∷ 108 ∷ 108 ∷ 32 ∷ 32 ∷ 32 ∷ 32 ∷ 32 ∷ 32 ∷ 48 ∷ 32 ∷ 32 ∷ 32 ∷ 32 ∷ 32 ∷ 48 ∷ 32 ∷ 32 ∷ 32 ∷ 32 ∷ 32 ∷ 49 ∷ 32 ∷ 32 ∷ 32 ∷ 32 ∷ 32 ∷ 32 ∷ 10 ∷ [])
unfolding model worked-calls digit_of digits_of decimal column columns partition_line last_line partition_lines page
worked-page = refl

-- After its fourth call, the turn that draws the first order: the block has its new place, and the job has begun. It counts as queued, with the one behind it
--
--    |   0     0     1     0     2
--    |all      0     1     0
pub begun-page : page (after closed (take 4 worked-calls)) ≡
    (32 ∷ 32 ∷ 32 ∷ 48 ∷ 32 ∷ 32 ∷ 32 ∷ 32 ∷ 32 ∷ 48 ∷ 32 ∷ 32 ∷ 32 ∷ 32 ∷ 32 ∷ 49 ∷ 32 ∷ 32 ∷ 32 ∷ 32 ∷ 32 ∷ 48 ∷ 32 ∷ 32 ∷ 32 ∷ 32 ∷ 32 ∷ 50 ∷ 10
    ∷ 97 ∷ 108 ∷ 108 ∷ 32 ∷ 32 ∷ 32 ∷ 32 ∷ 32 ∷ 32 ∷ 48 ∷ 32 ∷ 32 ∷ 32 ∷ 32 ∷ 32 ∷ 49 ∷ 32 ∷ 32 ∷ 32 ∷ 32 ∷ 32 ∷ 48 ∷ 32 ∷ 32 ∷ 32 ∷ 32 ∷ 32 ∷ 32 ∷ 10 ∷ [])
unfolding model worked-calls digit_of digits_of decimal column columns partition_line last_line partition_lines page
begun-page = refl

-- A state written by hand: 7 blocks, of which 0 and 3 are in levels, 2, 4 and 6 wait and 1 and 5 are nowhere; even blocks are in partition 0, odd ones in
-- partition 1. Block 3 stands in the list of those that wait besides, as no call leaves it: its place counts. Partition 1 has a counter of three
-- digits and two of three jobs
--
--    |   0     7     1     3     1
--    |   1   255     1     0     2
--    |all      2     2     3
unfoldable place_in : ℕ → Place
place_in zero = stored 2 5
place_in (suc zero) = nowhere
place_in (suc (suc zero)) = nowhere
place_in (suc (suc (suc zero))) = stored 7 200
place_in (suc (suc (suc (suc b)))) = nowhere

unfoldable counter_of : ℕ → ℕ
counter_of zero = 7
counter_of (suc q) = 255

unfoldable by_hand : State
by_hand = record {
  shape = shape 7 2 8 1 7 1;
  partition = λ b. b % 2;
  place = place_in;
  bytes = λ b. [];
  waiting = 6 ∷ 2 ∷ 3 ∷ 4 ∷ [];
  counter = counter_of;
  order = λ c. 0;
  mark = λ c. 0;
  holds = λ c. 0;
  queue = 1 ∷ 0 ∷ 1 ∷ [];
  begun = 0;
  cursor = 0;
  sent = 0;
  outstanding = [];
  request = closed.request;
}

by_hand_lem : page by_hand ≡
    (32 ∷ 32 ∷ 32 ∷ 48 ∷ 32 ∷ 32 ∷ 32 ∷ 32 ∷ 32 ∷ 55 ∷ 32 ∷ 32 ∷ 32 ∷ 32 ∷ 32 ∷ 49 ∷ 32 ∷ 32 ∷ 32 ∷ 32 ∷ 32 ∷ 51 ∷ 32 ∷ 32 ∷ 32 ∷ 32 ∷ 32 ∷ 49 ∷ 10
    ∷ 32 ∷ 32 ∷ 32 ∷ 49 ∷ 32 ∷ 32 ∷ 32 ∷ 50 ∷ 53 ∷ 53 ∷ 32 ∷ 32 ∷ 32 ∷ 32 ∷ 32 ∷ 49 ∷ 32 ∷ 32 ∷ 32 ∷ 32 ∷ 32 ∷ 48 ∷ 32 ∷ 32 ∷ 32 ∷ 32 ∷ 32 ∷ 50 ∷ 10
    ∷ 97 ∷ 108 ∷ 108 ∷ 32 ∷ 32 ∷ 32 ∷ 32 ∷ 32 ∷ 32 ∷ 50 ∷ 32 ∷ 32 ∷ 32 ∷ 32 ∷ 32 ∷ 50 ∷ 32 ∷ 32 ∷ 32 ∷ 32 ∷ 32 ∷ 51 ∷ 32 ∷ 32 ∷ 32 ∷ 32 ∷ 32 ∷ 32 ∷ 10 ∷ [])
unfolding model by_hand place_in counter_of digit_of digits_of decimal column columns partition_line last_line partition_lines page
by_hand_lem = refl
