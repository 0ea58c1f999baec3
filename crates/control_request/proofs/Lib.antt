pub mod AdvanceLemmas
mod AnswerLemmas
pub mod CallLemmas
pub mod ControlLemmas
