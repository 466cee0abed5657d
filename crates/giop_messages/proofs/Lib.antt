pub mod Codecs
pub mod Lengths
pub mod BodyLaws
pub mod MessageLaws
pub mod WithinLaws
pub mod WritingSteps
pub mod WritingLaws
pub mod Examples
