pub mod Beginning
pub mod Left
pub mod Seats
