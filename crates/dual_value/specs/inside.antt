pub mod Fixes
pub mod Parts
