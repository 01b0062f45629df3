pub mod RowChanges
pub mod PriceChanges
pub mod TableChanges
pub mod Places
pub mod Lists
pub mod Pushes
pub mod Rebuilding
