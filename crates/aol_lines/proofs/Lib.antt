pub mod LineWords
pub mod Instances
pub mod Readers
pub mod LeafTasks
