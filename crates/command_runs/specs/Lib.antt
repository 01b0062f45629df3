pub mod Outside
pub mod Reading
pub mod Certificates
pub mod Writing
pub mod Ending
pub mod inside
pub mod Prelude
