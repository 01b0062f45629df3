pub mod Choices
pub mod Hours
pub mod StartCosts
pub mod Ways
