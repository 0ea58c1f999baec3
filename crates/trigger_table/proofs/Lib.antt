pub mod Cancels
pub mod Ends
pub mod Places
pub mod Ready
pub mod Rising
pub mod Squares
