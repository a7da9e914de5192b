pub mod Text
pub mod Reading
pub mod Answers
pub mod Passing
pub mod Number
pub mod Writing
pub mod Walk
