pub mod Rows
pub mod Units
pub mod Joined
