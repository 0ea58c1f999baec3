pub mod Starts
pub mod Fetches
pub mod Metadata
pub mod Denials
pub mod Refreshes
pub mod LogRows
