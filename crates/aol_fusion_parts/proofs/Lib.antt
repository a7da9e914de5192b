pub mod Kept
pub mod Parts
pub mod Placing
pub mod Told
