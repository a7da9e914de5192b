pub mod Kept
pub mod Old
pub mod NewBlock
pub mod NewBlocks
pub mod NewNames
pub mod ReadPorts
pub mod NewRead
pub mod Sound
pub mod NewLeaves
pub mod Told
mod Sample
mod Examples
pub mod Origins
pub mod MapTold
