pub mod Choices
pub mod Problems
pub mod Switches
pub mod Running
pub mod Hourly
