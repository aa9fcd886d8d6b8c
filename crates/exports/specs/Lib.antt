pub mod Small
pub mod Progress
pub mod Stays
pub mod Exported
pub mod Idle
pub mod Settled
pub mod Paged
pub mod Determined
