pub mod Agree
pub mod SoFar
pub mod Told
