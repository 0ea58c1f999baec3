pub mod Course
pub mod Line
pub mod Numbers
pub mod Script
