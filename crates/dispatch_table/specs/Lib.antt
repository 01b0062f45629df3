pub mod Tasks
pub mod Numbers
pub mod Start
