pub mod Law
pub mod Summary
