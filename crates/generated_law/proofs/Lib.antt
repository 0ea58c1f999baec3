mod LineLemmas
mod RoundLemmas
mod SayingLemmas
