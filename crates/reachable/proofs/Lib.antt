-- What holds of every state that calls left. Read first
--   Theorems, Runs and RequestReads, with the words they use in Terms (specs/): what holds, over the runs of the rules, with nothing of the invariant
--   (of these draws-later stands in Decided, released-run in Settled);
--   Invariant, with Live (specs/): the record of facts from which all of it follows;
--   Reached: every call keeps that record.
pub mod Theorems
pub mod Runs
pub mod RunLasts
pub mod RequestReads
pub mod Live
pub mod Saved
pub mod Values
pub mod Reached
-- The steps, one file each, a lemma for each field of the record
pub mod Same
pub mod SameCalls
pub mod Resumed
pub mod LastSaved
pub mod Kept
-- What the steps and the crates above use: what a turn's step says of its state, what follows from the invariant, why no state that calls left
-- lacks a dummy or gathers too much, and what stays when a run begins
pub mod Decided
pub mod Consequences
pub mod Never
pub mod Worn
pub mod Begins
-- For the theorems: each block has one place; when a request is held; that the block collected leaves the job; which slot a turn reads; the commands sent to
-- one slot over a run
pub mod Counts
pub mod Settled
pub mod Leaves
pub mod Found
pub mod Sends
-- and, for document 02's P6: the reads that the partition reader has left in a state, over one call, and over a run
pub mod ReadsLeft
pub mod ReadsSent
pub mod ReadsRun
pub mod ReadList
-- Underneath: bits of counters, cells of levels, a search from a cursor, pending jobs and requests, a run's writes and the levels that it fills, stored
-- and gathered blocks by places and by slots, lists of commands
pub mod Cells
pub mod Scan
pub mod Pending
pub mod Writes
pub mod Fills
pub mod Blocks
pub mod Slots
pub mod Outstanding
-- All blocks may wait, whatever partitions store; a look-up beside a run of two jobs: computed
pub mod Example
