pub mod Hourly
pub mod Sizes
pub mod inside
