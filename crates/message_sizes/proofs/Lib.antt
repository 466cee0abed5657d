pub mod Lengths
pub mod RequestLengths
pub mod ReplyLengths
