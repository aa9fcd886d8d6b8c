-- Each step of a call keeps the invariant: a lemma for each field that the step changes, and one that puts them together
pub mod Open
pub mod Accept
pub mod Carry
pub mod Release
pub mod RequestRead
pub mod JobRead
pub mod Rebuild
pub mod Write
pub mod Completion
pub mod Collect
