pub mod Gathered
pub mod Inserted
pub mod Kept
pub mod Slots
pub mod Cached
