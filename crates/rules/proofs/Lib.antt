-- Theorems about the definitions of specs/
pub mod Memory
-- Theorems: sessions and edges that the checker computes, and laws
pub mod Checked
pub mod Laws
