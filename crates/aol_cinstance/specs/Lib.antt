pub mod Values
pub mod Statements
pub mod Effect
pub mod Made
