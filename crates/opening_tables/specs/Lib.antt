pub mod Marginal
pub mod inside
