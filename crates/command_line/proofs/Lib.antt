pub mod Commands
pub mod OptionNumbers
