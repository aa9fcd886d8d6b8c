-- What is in the output's buffer, what an input prints, the page that it leaves, and what a writer's bytes grow by
pub mod Output
pub mod Printed
pub mod Paged
pub mod Sent
