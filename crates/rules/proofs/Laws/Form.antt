-- Laws of the saved form: what was written is read back.
pub mod Numbers
pub mod Sums
pub mod Tables
pub mod Reads
pub mod Back
pub mod Fits
