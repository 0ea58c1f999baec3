mod FormLemmas
mod MatchingLemmas
mod OptionsLemmas
