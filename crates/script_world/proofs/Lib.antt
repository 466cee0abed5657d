pub mod Places
pub mod SettingsLemmas
pub mod SoundLemmas
pub mod Loops
pub mod CountLemmas
pub mod ClientLemmas
pub mod NameLemmas
pub mod FailureLemmas
