pub mod Turns
pub mod Levels
pub mod Fills
pub mod Runs
pub mod Stretches
