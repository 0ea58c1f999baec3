pub mod Loops
pub mod SelectionLemmas
