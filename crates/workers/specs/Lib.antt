pub mod Crew
pub mod Finishing
pub mod Hiring
pub mod Job
