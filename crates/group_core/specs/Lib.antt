pub mod Cores
pub mod Opening
pub mod Acting
pub mod Stepping
pub mod Running
pub mod Telling
pub mod Trying
pub mod Resuming
