pub mod Ones
pub mod Runs
