pub mod CrewLemmas
pub mod FinishingLemmas
pub mod HiringLemmas
pub mod JobLemmas
pub mod SendLemmas
