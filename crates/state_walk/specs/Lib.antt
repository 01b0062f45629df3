pub mod Sizes
pub mod inside
