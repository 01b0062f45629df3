pub mod Filtering
pub mod TreeSizes
pub mod Rounding
pub mod Tolerances
pub mod Decided
pub mod Closing
pub mod PivotedSteps
