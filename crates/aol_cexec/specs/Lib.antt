pub mod Machine
pub mod Refusals
pub mod Exec
pub mod Work
