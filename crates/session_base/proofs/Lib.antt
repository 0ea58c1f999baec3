pub mod AnswerLemmas
pub mod DoingLemmas
pub mod GateFaultLemmas
pub mod GatheringLemmas
pub mod OpenLemmas
pub mod RequestLemmas
