pub mod Chains
pub mod EpochsList
