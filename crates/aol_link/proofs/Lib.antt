pub mod Outside
pub mod Rows
