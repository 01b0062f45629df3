pub mod HandedUp
pub mod Endings
pub mod ReportEnds
pub mod Telling
pub mod Prices
pub mod Unread
pub mod OnlyRead
