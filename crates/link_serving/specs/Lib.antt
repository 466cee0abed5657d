pub mod Ends
pub mod Fronts
pub mod Serving
pub mod Wires
