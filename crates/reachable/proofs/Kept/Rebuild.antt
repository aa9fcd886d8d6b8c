-- A rebuild, field by field
pub mod Drawing
pub mod Holds
pub mod Counts
pub mod Marks
pub mod Commands
