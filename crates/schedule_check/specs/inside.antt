pub mod Failures
pub mod Changes
pub mod Supplies
pub mod Known
