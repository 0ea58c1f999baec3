pub mod BehindLemmas
pub mod HubLemmas
pub mod MessageLemmas
