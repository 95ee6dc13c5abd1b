pub mod Services
pub mod Times
