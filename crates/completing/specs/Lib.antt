pub mod Awaited
pub mod Completing
