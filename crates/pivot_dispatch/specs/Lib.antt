pub mod Commitments
pub mod Answers
pub mod inside
