pub mod RampRows
pub mod Sizes
