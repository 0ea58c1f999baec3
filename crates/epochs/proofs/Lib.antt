pub mod ChainLemmas
pub mod EpochsLemmas
