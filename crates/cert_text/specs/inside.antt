pub mod WrittenParts
pub mod Forms
pub mod LineCount
pub mod Parts
pub mod Drafts
