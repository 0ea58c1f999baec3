pub mod Answer
pub mod Exchange
pub mod Fields
pub mod FinalHead
pub mod Request
