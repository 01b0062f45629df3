pub mod Steps
pub mod SeatLaws
pub mod Making
