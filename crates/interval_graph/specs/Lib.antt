pub mod Intervals
pub mod RunningSums
