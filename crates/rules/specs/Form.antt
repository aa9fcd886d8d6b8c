-- Document 02, P5, as definitions: the saved form of a client.
pub mod Numbers
pub mod Sums
pub mod Payload
pub mod Longest
pub mod Reading
pub mod Loading
