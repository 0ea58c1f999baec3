pub mod CaseLemmas
pub mod LawLemmas
pub mod MatchLemmas
pub mod TokenLemmas
pub mod UnitLemmas
pub mod WalkLemmas
