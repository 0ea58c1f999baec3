pub mod Faults
pub mod Grammar
