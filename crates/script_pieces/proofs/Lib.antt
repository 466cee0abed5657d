pub mod Cuts
pub mod Counts
pub mod Resumes
pub mod Feedings
pub mod Wholes
pub mod Endings
pub mod Handing
pub mod Texts
