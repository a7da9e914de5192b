pub mod Followed
pub mod Powers
pub mod Rows
pub mod Bounds
pub mod Nodes
