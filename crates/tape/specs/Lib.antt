pub mod Tape
pub mod Settled
