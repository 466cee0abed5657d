pub mod Watches
pub mod Happenings
