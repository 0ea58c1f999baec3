pub mod Door
pub mod Sink
pub mod Source
