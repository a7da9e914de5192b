pub mod Places
pub mod Reading
pub mod Answers
pub mod Trees
pub mod Readable
pub mod Writing
pub mod Rules
pub mod Types
