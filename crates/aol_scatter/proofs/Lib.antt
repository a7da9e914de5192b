pub mod Crosses
pub mod Memory
pub mod Places
pub mod Settling
pub mod Sharing
pub mod Steps
