pub mod Rolling
pub mod inside
