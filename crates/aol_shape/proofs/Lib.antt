pub mod Points
pub mod Rows
pub mod Sizes
pub mod Stuck
pub mod Steps
pub mod SameTexts
pub mod Begins
pub mod Numerals
