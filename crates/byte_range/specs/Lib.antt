pub mod Put
pub mod Span
pub mod Want
