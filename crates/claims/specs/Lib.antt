-- Demands 2 and 3 for runs of exported calls. Claim is all that a reader has to believe, beside `exports` and the claims of `array` and `hiding`;
-- Theorem proves it
pub mod Claim
-- A run in which every call is accepted
pub mod Accepted
