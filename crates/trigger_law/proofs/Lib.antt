mod FinalLemmas
mod NumberLemmas
mod OpenLemmas
mod Comes
mod PreparedLaw
mod AccountLaw
mod CancelLaw
