pub mod Calm
pub mod Doing
pub mod Finding
pub mod Going
pub mod Longer
pub mod May
pub mod Taking
