pub mod Placement
pub mod Workers
pub mod Marks
pub mod Tables
