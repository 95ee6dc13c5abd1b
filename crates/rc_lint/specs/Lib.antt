pub mod Status
pub mod Says
pub mod Keeps
pub mod internal
