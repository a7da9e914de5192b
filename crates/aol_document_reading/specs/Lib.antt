pub mod Parts
pub mod Trails
