pub mod Sources
pub mod Conditions
pub mod Slots
