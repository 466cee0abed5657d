pub mod ContentLaws
pub mod FindingLaws
pub mod WritingLaws
