pub mod Walks
pub mod Numbers
pub mod Schedules
pub mod Steps
pub mod Nodes
pub mod Leaves
