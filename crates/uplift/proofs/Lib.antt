pub mod Whole
pub mod Signs
pub mod UnitSigns
pub mod Regrouped
pub mod Gap
pub mod Lists
pub mod Rows
pub mod Answered
