pub mod Programs
pub mod LastRows
pub mod ProgramValues
pub mod LastTables
pub mod ProgramRuns
pub mod Prelude
