pub mod Takes
pub mod Gives
