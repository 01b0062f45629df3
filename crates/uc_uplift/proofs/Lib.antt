pub mod TextNumbers
pub mod Uplifts
