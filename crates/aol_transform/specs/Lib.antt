pub mod Steps
pub mod SoFar
pub mod Told
