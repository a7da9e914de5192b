pub mod Filling
pub mod GroupFits
