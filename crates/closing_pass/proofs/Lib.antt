pub mod Ended
pub mod Moves
pub mod Settled
