pub mod Closed
pub mod Map
pub mod Numbers
pub mod Told
