-- A list with its bytes; what its saves have written, and what a load of it brings
pub mod Saves
pub mod Reloads
-- What bytes a call has matters to nothing that is told
pub mod Bytes
pub mod Twins
-- One call with numbers for words, as the machine of the rules has it
pub mod Calls
-- One call with words: a word is a quotient and a number; what the call's number depends on, what it does, what it uses up
pub mod Quotients
pub mod Asks
pub mod Words
-- The machine that takes words, its tapes and the claim's; its chunks are public parts and numbers; two compared lists
pub mod Tapes
pub mod Codes
pub mod Matched
-- The claim
pub mod Runs
pub mod Served
