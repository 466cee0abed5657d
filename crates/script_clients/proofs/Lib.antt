pub mod Taking
pub mod IdLaws
pub mod Parts
