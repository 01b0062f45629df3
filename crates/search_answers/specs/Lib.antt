pub mod Opening
pub mod SearchResult
pub mod Writable
pub mod Best
pub mod Starts
pub mod Answers
pub mod Pivoted
