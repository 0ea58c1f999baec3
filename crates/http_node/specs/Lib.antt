pub mod Audit
pub mod Batch
pub mod Command
pub mod Note
pub mod Runs
pub mod Serve
pub mod Told
