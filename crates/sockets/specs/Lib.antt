pub mod Pace
pub mod Peer
pub mod Ready
