pub mod Runs
pub mod Functions
pub mod inside
