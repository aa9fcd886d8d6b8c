-- Demands 2 and 3 for runs of exported calls. Claim is all that a reader has to believe, beside `exports` and the claims of `array` and `hiding`;
-- Theorem proves it
pub mod Theorem
pub mod Tapes
pub mod Found
pub mod ExportedReads
-- A small run, computed; and one in which every call is accepted
pub mod Example
pub mod Accepted
-- The proof: the memory as far as it is lent, what is in the buffer and so is handed out, one call, and words as bytes
pub mod Memory
pub mod Buffers
pub mod HandedOut
pub mod Steps
pub mod Words
