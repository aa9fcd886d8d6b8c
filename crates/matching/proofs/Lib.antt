-- That two runs of a machine that draws show the same, one to one over what they draw. Nothing here knows a store.
-- Matchings; machines, their tapes and what is seen of a run; draws put off until they are shown; two lists through one ideal machine; flat tapes;
-- chunks that are a public part and draws
pub mod Machine
pub mod Deferred
pub mod TwoLists
pub mod Flat
pub mod Coded
-- The trades of single calls: none, a read of a slot out of an arrangement, a new order (and, in Draws, the draws for an arrangement), a value out of a
-- table (and, in Shown, its round trips), and a trade at one key of many
pub mod Trades
pub mod SlotReads
pub mod Draws
pub mod Order
pub mod Shown
pub mod Positions
pub mod Keyed
