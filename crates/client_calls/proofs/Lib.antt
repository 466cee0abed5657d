pub mod Acts
pub mod CallLaws
pub mod FaultLaws
pub mod MadeLaws
pub mod Written
