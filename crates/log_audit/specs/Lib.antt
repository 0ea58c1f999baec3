pub mod Audit
pub mod Forms
pub mod Lines
pub mod LogFile
pub mod Totals
pub mod Value
pub mod Written
