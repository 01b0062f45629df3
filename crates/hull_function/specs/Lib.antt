pub mod Hulls
pub mod Problems
pub mod Hours
pub mod inside
