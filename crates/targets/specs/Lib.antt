pub mod Endpoint
pub mod Fronts
pub mod Grammar
pub mod Target
