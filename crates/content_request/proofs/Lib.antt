pub mod CountLemmas
pub mod CourseLemmas
pub mod RefreshLemmas
