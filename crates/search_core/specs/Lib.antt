pub mod Fields
pub mod MachineCode
