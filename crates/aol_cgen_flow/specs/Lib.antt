pub mod Flow
pub mod Runs
