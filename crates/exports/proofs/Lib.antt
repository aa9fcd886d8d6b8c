-- What is performed and then handed back as bytes meets the exported call's contract; of a turn and a completion, once a request is released there
pub mod Exported
pub mod Settled
pub mod Stored
