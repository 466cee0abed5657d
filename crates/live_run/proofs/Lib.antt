pub mod Counting
pub mod Ending
pub mod Leaving
pub mod Running
pub mod Telling
