pub mod Answer
pub mod Fault
pub mod Grammar
pub mod Line
pub mod Own
