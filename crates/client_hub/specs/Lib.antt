pub mod Ahead
pub mod Behind
pub mod Buffer
pub mod Hub
pub mod Message
