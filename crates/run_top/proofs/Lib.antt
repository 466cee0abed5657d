pub mod PlayingLemmas
pub mod WordLemmas
pub mod MadeLemmas
pub mod EndLemmas
pub mod LineLemmas
