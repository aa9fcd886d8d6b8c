-- A refused call
pub mod Refused
