pub mod Best
pub mod Passes
pub mod Kinds
pub mod Desks
pub mod Dispatches
pub mod DeskCode
pub mod Commits
pub mod Grown
