pub mod Plans
pub mod Sent
