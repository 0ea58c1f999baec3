pub mod Advertisement
pub mod Logging
pub mod Settings
