pub mod Ahead
pub mod Law
pub mod Lines
pub mod Reading
pub mod Replay
pub mod Script
pub mod Summary
