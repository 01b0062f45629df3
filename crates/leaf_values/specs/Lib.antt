pub mod Paths
pub mod Entries
pub mod ExactRooms
pub mod Reached
pub mod inside
