pub mod Hosts
pub mod LastLook
