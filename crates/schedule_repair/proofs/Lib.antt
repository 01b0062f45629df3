pub mod PlainSchedules
