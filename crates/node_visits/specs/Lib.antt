pub mod Trials
pub mod inside
