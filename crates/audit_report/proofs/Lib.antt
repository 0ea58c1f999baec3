pub mod OrderLemmas
pub mod ReportLemmas
