pub mod Job
pub mod Lines
pub mod Answer
pub mod Results
pub mod Decided
