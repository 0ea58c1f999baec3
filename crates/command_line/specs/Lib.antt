pub mod Choice
pub mod Run
