pub mod RowOrder
pub mod PriceSizes
pub mod ConstantSizes
