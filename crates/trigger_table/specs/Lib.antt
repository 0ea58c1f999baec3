pub mod State
pub mod Triggers
