pub mod Unread
pub mod Prices
pub mod Certificates
