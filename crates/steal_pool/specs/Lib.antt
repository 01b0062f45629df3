pub mod Line
pub mod Seats
pub mod Ends
pub mod Pools
