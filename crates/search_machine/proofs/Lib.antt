pub mod Claims
pub mod Growth
pub mod OrderlySteps
pub mod TreeSteps
pub mod TrueSteps
pub mod OwnSteps
pub mod Logs
pub mod Plain
