pub mod Lines
pub mod Said
pub mod Checked
pub mod Fields
pub mod Numbers
pub mod Stored
pub mod Told
