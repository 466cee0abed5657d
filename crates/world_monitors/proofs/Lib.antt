pub mod PollingLemmas
pub mod SweepingLemmas
