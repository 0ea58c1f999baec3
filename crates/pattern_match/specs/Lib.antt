pub mod Faults
pub mod Matching
pub mod Steps
pub mod Tokens
pub mod Units
