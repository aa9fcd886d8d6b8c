-- A list with its bytes; what its saves have written, and what a load of it brings
pub mod Fixed
