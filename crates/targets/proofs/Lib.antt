pub mod EndpointLemmas
pub mod FrontLemmas
pub mod RowLemmas
pub mod TableLemmas
pub mod TargetFronts
pub mod TargetLemmas
pub mod UrlLemmas
