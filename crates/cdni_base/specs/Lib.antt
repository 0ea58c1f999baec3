pub mod Key
pub mod KeyEqualityLemmas
pub mod Limits
pub mod Provider
pub mod Rule
pub mod Scratch
pub mod TypeName
