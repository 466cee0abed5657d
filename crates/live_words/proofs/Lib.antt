pub mod Texts
pub mod Walks
pub mod Values
pub mod Forms
pub mod OptionLemmas
