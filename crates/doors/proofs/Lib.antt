pub mod EndedLemmas
pub mod MemoryDoorLemmas
pub mod MemoryOutsideLemmas
pub mod VisitLemmas
pub mod ServedLemmas
