pub mod Cheapest
pub mod Regular
