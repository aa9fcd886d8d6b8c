pub mod Puts
pub mod Words
pub mod Spread
pub mod Sums
