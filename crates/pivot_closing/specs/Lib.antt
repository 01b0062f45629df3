pub mod TreeSizes
pub mod Pivoted
pub mod PivotedSteps
