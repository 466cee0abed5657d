pub mod Amid
pub mod Going
pub mod Lists
