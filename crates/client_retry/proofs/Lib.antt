pub mod CountingLaws
pub mod Examples
pub mod ClientLaws
