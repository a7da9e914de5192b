pub mod Tile
pub mod Tiling
pub mod Leaves
