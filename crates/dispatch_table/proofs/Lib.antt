pub mod ColumnLists
pub mod Corners
pub mod LimitReads
pub mod MadeTasks
pub mod Pushed
pub mod SameTables
pub mod Scales
pub mod StartSizes
