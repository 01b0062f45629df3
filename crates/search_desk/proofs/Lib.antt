pub mod Claimed
pub mod Costs
pub mod Dispatches
pub mod Kept
pub mod Later
pub mod Scale
