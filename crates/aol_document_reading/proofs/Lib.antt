pub mod Elements
pub mod Tasks
pub mod Parts
pub mod Steps
pub mod Hooks
