pub mod Ended
pub mod Tables
pub mod Commitments
pub mod Answering
pub mod Stopping
