pub mod Address
pub mod Door
pub mod Ended
pub mod MemoryDoor
pub mod MemoryOutside
pub mod Outside
pub mod Visit
pub mod Served
