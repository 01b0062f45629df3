pub mod Demo
pub mod inside
