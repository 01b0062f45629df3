pub mod CertificateText
pub mod TextConditions
pub mod Grammar
pub mod Reading
pub mod inside
