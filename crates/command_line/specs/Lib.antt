pub mod Services
pub mod FormName
pub mod Form
pub mod Misuse
pub mod internal
