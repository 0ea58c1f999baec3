mod AuditLemmas
mod BatchLemmas
mod GeneratedLemmas
pub mod ServeLemmas
