pub mod Rays
pub mod Slopes
