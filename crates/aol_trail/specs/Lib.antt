pub mod Trail
pub mod Level
pub mod Further
