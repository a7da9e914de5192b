pub mod Decided
pub mod Runs
pub mod Works
