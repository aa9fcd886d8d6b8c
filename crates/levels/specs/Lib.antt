pub mod Next
pub mod Walks
pub mod Slots
pub mod Items
pub mod Stored
pub mod Reads
pub mod Unread
