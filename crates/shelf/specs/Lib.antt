pub mod Open
pub mod OpenEquality
pub mod KeptShelf
