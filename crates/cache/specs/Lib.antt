pub mod Longest
pub mod Waiting
pub mod Leaving
pub mod Marks
