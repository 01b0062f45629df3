pub mod ColumnValues
pub mod ShownSchedules
pub mod inside
