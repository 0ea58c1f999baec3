pub mod RangeLemmas
pub mod SpanLemmas
