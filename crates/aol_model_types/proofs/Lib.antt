pub mod Crossing
pub mod PortNames
