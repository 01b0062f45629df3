pub mod IntervalCosts
pub mod PlainSums
pub mod RunningSums
pub mod TermRows
