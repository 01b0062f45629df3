pub mod Checking
pub mod Checks
pub mod Accepting
pub mod Upgrading
pub mod inside
