pub mod Plan
pub mod Verdict
