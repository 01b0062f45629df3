pub mod Uplifting
pub mod inside
