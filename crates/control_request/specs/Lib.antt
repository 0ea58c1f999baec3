pub mod Advance
pub mod Answer
pub mod Control
pub mod Lists
pub mod Told
