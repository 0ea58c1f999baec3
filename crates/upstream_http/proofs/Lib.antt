pub mod AnswerLemmas
pub mod ExchangeLemmas
pub mod FinalLemmas
pub mod FoundLemmas
