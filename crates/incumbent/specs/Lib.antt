pub mod Costs
pub mod Words
pub mod Passes
pub mod Rule
