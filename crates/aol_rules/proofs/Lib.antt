pub mod Walks
pub mod Choices
pub mod NamePlaces
pub mod NameGroups
