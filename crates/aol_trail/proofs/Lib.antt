pub mod Places
pub mod Levels
pub mod Trails
pub mod Stretches
pub mod Furthers
