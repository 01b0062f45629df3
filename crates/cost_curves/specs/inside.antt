pub mod Corners
pub mod Places
