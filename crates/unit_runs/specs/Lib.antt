pub mod Runs
pub mod Patterns
pub mod CostThrough
pub mod RunsToGo
pub mod Laws
pub mod Examples
