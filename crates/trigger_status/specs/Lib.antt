pub mod Collection
pub mod Command
pub mod Items
pub mod Job
pub mod Write
