pub mod Journal
pub mod Once
pub mod Reached
pub mod ViewLaws
pub mod ValueLaws
pub mod TextLaws
pub mod RequestLaws
