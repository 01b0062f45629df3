pub mod DecidedPaths
pub mod Reckoned
pub mod NodeTotals
pub mod PathsOfNodes
pub mod ExactSums
pub mod GainSteps
