pub mod LowerHull
pub mod LeastCost
pub mod LowestTerms
pub mod UnitCurves
pub mod inside
