pub mod Ask
pub mod Path
