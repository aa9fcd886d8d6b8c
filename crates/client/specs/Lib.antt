pub mod View
pub mod Rows
pub mod Readings
pub mod Changes
pub mod Ready
pub mod Moves
pub mod Kinds
