pub mod HullSlopes
pub mod HullSteps
pub mod HullFunction
pub mod Represented
pub mod HourPrices
pub mod HourSums
pub mod Units
