pub mod Joined
pub mod Spelled
pub mod Ends
pub mod InPlace
