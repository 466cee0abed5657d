pub mod Seeing
pub mod Changing
pub mod Counting
pub mod Judging
pub mod Finding
pub mod Placing
pub mod Keeping
