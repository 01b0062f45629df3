pub mod Dispatched
pub mod ReadOff
pub mod Readings
pub mod PricedLimits
