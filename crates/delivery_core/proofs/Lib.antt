pub mod Decisions
pub mod Growth
pub mod PlacedLemmas
pub mod RefreshLemmas
pub mod Squares
pub mod Places
