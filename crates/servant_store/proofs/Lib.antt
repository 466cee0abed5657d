pub mod MapLaws
pub mod Said
pub mod States
pub mod ArgumentLaws
