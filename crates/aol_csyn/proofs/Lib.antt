pub mod Changes
pub mod Expressions
pub mod Joined
pub mod Numbers
pub mod Parts
pub mod Programs
pub mod Statements
pub mod Written
