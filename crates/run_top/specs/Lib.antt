pub mod Words
pub mod Playing
pub mod Making
pub mod Headline
pub mod Lines
pub mod PlayingLaws
pub mod MakingLaws
pub mod Laws
