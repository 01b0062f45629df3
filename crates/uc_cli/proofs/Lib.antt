pub mod ScheduleTexts
pub mod FoundSizes
pub mod SearchResults
pub mod Endings
pub mod TurnedAway
pub mod Rolls
