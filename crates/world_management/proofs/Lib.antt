pub mod HostLemmas
pub mod MakingLemmas
pub mod MembershipLemmas
pub mod CreatingLemmas
pub mod SettingLemmas
