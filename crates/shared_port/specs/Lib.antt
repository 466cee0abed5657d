pub mod Answers
pub mod Links
pub mod Turns
