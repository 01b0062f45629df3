pub mod Value
pub mod Characters
pub mod Grammar
pub mod Fronts
pub mod Reading
pub mod View
pub mod inside
