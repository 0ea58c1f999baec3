pub mod KeyLemmas
pub mod ProviderFronts
pub mod ProviderLemmas
