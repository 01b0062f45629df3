pub mod FirstUnits
pub mod Lawful
pub mod UnitParts
