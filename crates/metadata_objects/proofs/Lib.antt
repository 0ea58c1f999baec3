pub mod AgreeLemmas
pub mod BoundLemmas
pub mod Counts
pub mod Loops
pub mod FirstLemmas
mod Nesting
