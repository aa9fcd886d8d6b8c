pub mod Answers
pub mod Shapes
pub mod Meets
pub mod Buffers
