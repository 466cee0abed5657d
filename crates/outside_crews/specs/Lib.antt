pub mod Moments
pub mod Starts
