pub mod Chain
pub mod Effective
pub mod Held
pub mod HostTable
