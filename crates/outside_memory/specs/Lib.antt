pub mod Memory
pub mod Schedule
pub mod Faulty
pub mod Pace
