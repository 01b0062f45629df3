pub mod Decided
pub mod Pivoting
