pub mod Decimals
pub mod FirstMatchLemmas
mod ShortLemmas
