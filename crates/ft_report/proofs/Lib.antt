pub mod Joined
pub mod WorthLemmas
