pub mod Crossings
pub mod Pave
pub mod Paving
pub mod Leaves
