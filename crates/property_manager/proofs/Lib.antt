pub mod EffectiveLemmas
pub mod HostLemmas
pub mod PartLemmas
pub mod PlaceLemmas
pub mod TypeLemmas
