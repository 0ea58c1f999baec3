pub mod Draft
pub mod Fault
pub mod Reading
pub mod Selection
pub mod Spec
pub mod TriggerUrl
