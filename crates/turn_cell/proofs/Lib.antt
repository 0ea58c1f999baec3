pub mod Histories
pub mod Views
pub mod Seats
pub mod Steps
pub mod Passes
pub mod Rules
pub mod Facts
