pub mod Rows
pub mod Needs
pub mod Search
pub mod Gather
pub mod MainReads
pub mod InOrder
