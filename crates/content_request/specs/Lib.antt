pub mod Course
pub mod Refresh
pub mod Telling
