mod Asked
mod Endings
mod Lookups
