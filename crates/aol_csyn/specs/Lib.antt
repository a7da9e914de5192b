pub mod Tree
pub mod Stored
pub mod Form
pub mod Meaning
pub mod Text
pub mod Writing
pub mod Laws
pub mod Puts
