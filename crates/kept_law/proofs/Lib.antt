pub mod Lists
pub mod Rooms
pub mod Entries
pub mod Stock
pub mod KeptLaw
