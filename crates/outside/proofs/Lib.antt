pub mod Appending
pub mod ReadingLemmas
pub mod Pairs
pub mod Joining
