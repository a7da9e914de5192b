pub mod Lists
pub mod Members
pub mod NewNames
pub mod ReadPorts
pub mod Levels
pub mod Ways
pub mod CrossedTilers
pub mod Rooms
pub mod OnceNamed
pub mod Both
pub mod NewOuter
pub mod Stack
pub mod NewRead
pub mod Sound
pub mod Kept
pub mod NewLeaves
pub mod Meets
pub mod Origins
pub mod MapTold
mod Sample
mod Examples
