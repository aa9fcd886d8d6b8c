-- The proof. Three machines: the rules' (suffix R), one that knows no order before it is shown (M), the ideal one, which knows only what is
-- public (I; what it shares with the others has the suffix P). Stage one puts the orders' draws off, stage two those of the positions
pub mod Machines
pub mod Unchanged
pub mod Orders
pub mod Positions
pub mod Lists
pub mod Cache
pub mod Reached
-- "Among such requests only 8 may depend on names"
pub mod Asks
pub mod Names
-- The theorem, `hidden`
pub mod Theorem
-- The same with an honest host, and demand 2 with it
pub mod Honest
-- The calls may be chosen by what was told
pub mod Chosen
-- Two lists of a small shape, and two in which jobs of one partition run together between others: computed
pub mod Example
pub mod Joined
