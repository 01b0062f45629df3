pub mod Freed
pub mod Places
