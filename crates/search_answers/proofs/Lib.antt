pub mod Answered
pub mod RootsExcluded
pub mod FewRows
pub mod NoDearer
pub mod OwnValues
pub mod WrittenTables
