pub mod Number
pub mod ShortBytes
pub mod Word
pub mod FirstMatch
pub mod Fronts
pub mod ReservedList
pub mod Text
