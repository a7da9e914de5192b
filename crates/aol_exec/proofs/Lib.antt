pub mod Walks
pub mod FirstLines
pub mod OneJob
pub mod EachTree
