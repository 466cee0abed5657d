pub mod Replay
pub mod Begin
pub mod Moments
pub mod Holding
pub mod Images
pub mod Once
pub mod Nowhere
pub mod Whole
