pub mod Answered
pub mod Ended
pub mod Full
pub mod Law
pub mod Recorded
pub mod Session
pub mod Settled
pub mod Turn
