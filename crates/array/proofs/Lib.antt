-- Demand 2, the plain array. Claim (specs/) is all that a reader has to believe, beside crate `rules`; Theorem proves it (`plain-array`)
pub mod Theorem
-- A host that takes a write's bytes when it is sent, one that takes them at its completion; both serve document 01's worked session
pub mod Hosts
-- and every run can be served by the first of them
pub mod Effects
pub mod ServedSlots
pub mod Served
pub mod Worked
-- The proof: where the contents of a block are (Contents), and that every call keeps them there
pub mod Contents
pub mod Slots
pub mod Turns
pub mod Completions
pub mod Collected
pub mod Collects
