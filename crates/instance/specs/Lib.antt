pub mod FirstFault
pub mod Fields
pub mod Scaled
pub mod Answer
pub mod InstanceOf
pub mod Bytes
pub mod inside
