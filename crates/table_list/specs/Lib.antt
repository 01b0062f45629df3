pub mod Changes
pub mod TableChanges
pub mod Passing
pub mod inside
