pub mod Blocked
pub mod Outcomes
pub mod Rays
pub mod RootTables
pub mod inside
