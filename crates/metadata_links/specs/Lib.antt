pub mod Answers
pub mod Fault
pub mod Filled
pub mod Finding
pub mod Gathering
pub mod Href
pub mod Joined
pub mod State
