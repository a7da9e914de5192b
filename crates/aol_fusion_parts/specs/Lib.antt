pub mod Joined
pub mod Ports
pub mod Made
pub mod Whole
pub mod Changed
pub mod Fuse
pub mod Room
pub mod Ready
