pub mod Closings
pub mod inside
