pub mod Leads
pub mod Resolved
pub mod Table
pub mod Before
pub mod Compared
pub mod Answers
