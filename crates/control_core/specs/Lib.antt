pub mod Control
pub mod File
