pub mod ColumnLemmas
pub mod DateLemmas
pub mod ExtraLemmas
pub mod FieldListLemmas
pub mod FixdateLemmas
pub mod NameLemmas
pub mod TableLemmas
