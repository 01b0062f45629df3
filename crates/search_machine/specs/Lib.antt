pub mod Machine
pub mod Moves
pub mod Steps
pub mod Orderly
pub mod OwnTables
pub mod Runs
pub mod Prelude
