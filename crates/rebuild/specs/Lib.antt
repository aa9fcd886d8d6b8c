pub mod Target
pub mod Fill
pub mod Steps
pub mod Shuffle
pub mod Items
pub mod Placing
pub mod Laying
