pub mod Laid
pub mod Blocks
pub mod Levels
pub mod Records
pub mod Waiting
pub mod Restored
pub mod Loading
