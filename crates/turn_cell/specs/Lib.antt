pub mod History
pub mod View
pub mod Rule
pub mod Plays
pub mod Cell
pub mod Laws
