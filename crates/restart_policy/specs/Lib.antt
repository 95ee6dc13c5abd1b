pub mod Exits
pub mod Times
