-- A line that its buffer does not hold; a turn; and what was read and written so far
pub mod Long
pub mod Turns
pub mod Carry
