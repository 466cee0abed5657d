pub mod LineLemmas
pub mod RoundLemmas
