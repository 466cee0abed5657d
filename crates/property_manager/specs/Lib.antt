pub mod Groups
pub mod Hosts
pub mod Judging
pub mod Levels
pub mod Names
pub mod Numbers
pub mod Standings
pub mod Styles
