mod AheadLemmas
pub mod ReadingLemmas
pub mod ReplayLemmas
pub mod ScriptLemmas
pub mod SummaryLemmas
