pub mod HeldLemmas
pub mod ListLemmas
pub mod OpenLemmas
pub mod ShelfLemmas
pub mod StaleLemmas
pub mod TriedLemmas
