mod GrammarLemmas
mod HexLemmas
