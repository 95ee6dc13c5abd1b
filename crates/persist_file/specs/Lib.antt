pub mod Store
pub mod Causes
pub mod Examples
pub mod internal
