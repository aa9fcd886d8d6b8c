pub mod Public
pub mod Ideal
pub mod Middle
pub mod Rules
pub mod Needs
