pub mod Hosts
pub mod Answers
pub mod Keeping
pub mod Asking
pub mod Taking
pub mod Managing
pub mod Turning
