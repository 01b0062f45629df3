pub mod Uplift
pub mod Sizes
pub mod inside
