pub mod TwoSeats
