-- Laws of the saved form: what was written is read back.
pub mod Saveable
