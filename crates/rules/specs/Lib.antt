-- Document 01 as definitions, in its order. A reader has to believe these.
pub mod Shape
pub mod State
pub mod Setters
pub mod Ranges
pub mod Memory
pub mod Draws
pub mod Levels
pub mod Jobs
pub mod Blocks
pub mod Open
pub mod Request
pub mod Reader
pub mod Rebuild
pub mod Turn
pub mod Completion
pub mod Collect
-- ..and document 02's saved form
pub mod Form
pub mod Questions
pub mod Run
-- Document 02: the figures of a page; and runs that look nothing up to tell where a block was
pub mod Figures
pub mod Silent
pub mod Resumes
-- One name under which all definitions unfold, and the words that theorems about them use
pub mod Unfold
pub mod Laws
