pub mod Statements
pub mod Effect
