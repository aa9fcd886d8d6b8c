-- A reader has to believe this one, with crates `rules`, `lines` and `printing`
pub mod Session
pub mod Checked
-- The code's contracts, and laws
pub mod Answers
pub mod Laws
pub mod Slots
pub mod OpenLine
pub mod TurnLine
pub mod Host
pub mod Opened
