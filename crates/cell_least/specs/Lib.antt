pub mod CellLeast
