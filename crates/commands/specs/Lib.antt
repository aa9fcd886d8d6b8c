pub mod Outstanding
pub mod Commands
