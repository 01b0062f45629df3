pub mod GreatestSlopes
pub mod OnCells
pub mod PricedPeriods
pub mod RayNumbers
pub mod RayTables
pub mod NoPrices
