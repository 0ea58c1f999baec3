pub mod FinalTriggers
pub mod OpenSteps
pub mod Accounts
