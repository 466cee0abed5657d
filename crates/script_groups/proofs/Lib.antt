pub mod Going
pub mod Shown
pub mod Telling
pub mod Takers
pub mod Acts
pub mod Lists
pub mod MemberLines
