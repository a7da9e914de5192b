pub mod Appended
pub mod Given
pub mod Over
pub mod Taken
