pub mod Rooms
pub mod NodeAnswer
pub mod Inheritance
pub mod inside
