-- The code's contracts
pub mod Stream
pub mod History
pub mod Carried
-- Laws
pub mod Laws
pub mod Steps
