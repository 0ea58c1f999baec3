pub mod Decision
pub mod Records
pub mod Installed
pub mod Refreshes
pub mod Edge
pub mod Traces
pub mod OpenCount
