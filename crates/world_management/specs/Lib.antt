pub mod Making
pub mod Membership
pub mod Hosts
pub mod Reading
pub mod Creating
pub mod Properties
