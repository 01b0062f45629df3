pub mod DropCommitment
pub mod MostOnStuck
pub mod Standings
pub mod inside
