pub mod Chains
pub mod Firsts
pub mod Innermost
pub mod OrderLemmas
pub mod HostLemmas
pub mod NoneLemmas
