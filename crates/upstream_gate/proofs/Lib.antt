pub mod MemoryGateLemmas
pub mod PlanLemmas
