-- A request released, as client and memory have it.
pub mod Held
pub mod Released
pub mod Performs
