pub mod WritingLaws
pub mod Codecs
pub mod ReadingLaws
pub mod ValidLaws
