pub mod Stands
pub mod Telling
pub mod Replying
pub mod Going
pub mod Giving
pub mod Holding
pub mod Viewing
pub mod Reopening
