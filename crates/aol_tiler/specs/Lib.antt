pub mod Matrices
pub mod Tiler
pub mod Sums
pub mod Makers
pub mod Walk
pub mod Laws
