pub mod Chosen
pub mod Values
