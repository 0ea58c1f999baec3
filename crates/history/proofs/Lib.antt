pub mod Cases
pub mod Numbers
pub mod Opens
pub mod Words
