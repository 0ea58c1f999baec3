pub mod CascadeLemmas
pub mod FarLemmas
pub mod LawLemmas
pub mod MemoryLinkLemmas
pub mod OrderLemmas
pub mod PassingLemmas
pub mod TaskLemmas
