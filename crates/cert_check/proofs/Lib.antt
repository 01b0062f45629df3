pub mod Places
pub mod Pending
pub mod Certificates
pub mod TextFacts
pub mod Listed
pub mod WalkedPaths
pub mod LeafNumbers
pub mod Turns
