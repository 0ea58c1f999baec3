mod CauseLemmas
mod ListClockLemmas
