pub mod Puts
pub mod Round
pub mod Claims
pub mod Made
pub mod Parts
