pub mod Parts
pub mod Entries
pub mod Sizes
pub mod Saving
