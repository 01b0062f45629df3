pub mod Minima
pub mod Paths
