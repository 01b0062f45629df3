pub mod Visits
pub mod Refusals
pub mod inside
pub mod Answers
