pub mod Status
pub mod Reply
pub mod Line
pub mod Instance
pub mod Lent
pub mod Refused
