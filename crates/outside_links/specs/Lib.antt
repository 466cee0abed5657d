pub mod Addresses
pub mod Lending
pub mod Wires
