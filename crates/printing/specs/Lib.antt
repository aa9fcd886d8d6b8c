pub mod Text
pub mod Columns
pub mod Laws
pub mod Widths
pub mod Checked
