pub mod Blocked
pub mod OpeningRays
pub mod Paths
