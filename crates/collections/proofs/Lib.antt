pub mod Added
pub mod Ascending
pub mod Held
pub mod Places
