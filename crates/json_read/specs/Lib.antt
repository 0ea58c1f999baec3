pub mod Borrowed
pub mod Field
pub mod Path
pub mod Text
