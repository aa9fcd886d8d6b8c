-- What holds of every state that calls left. Read first
--   Theorems, Runs and RequestReads (proofs/), with the words they use in Terms: what holds, over the runs of the rules, with nothing of the invariant;
--   Invariant, with Live: the record of facts from which all of it follows;
--   Reached (proofs/): every call keeps that record.
pub mod Terms
pub mod Live
pub mod Invariant
pub mod Values
-- Two states that are the same but for what no call asks of them
pub mod Same
-- For the theorems: the job that a turn's step belongs to
pub mod Counts
