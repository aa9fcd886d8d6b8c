-- Demand 3, that nothing tells two compared lists apart.
-- The statement: read it beside document 01's "Two lists and their tapes"
pub mod Claim
-- The proof. Three machines: the rules' (suffix R), one that knows no order before it is shown (M), the ideal one, which knows only what is
-- public (I; what it shares with the others has the suffix P). Stage one puts the orders' draws off, stage two those of the positions
pub mod Machines
pub mod Lists
-- "Among such requests only 8 may depend on names"
pub mod Names
-- The same with an honest host, and demand 2 with it
pub mod Honest
-- The calls may be chosen by what was told
pub mod Chosen
