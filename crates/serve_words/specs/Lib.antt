pub mod Form
pub mod Matching
pub mod Options
pub mod Values
