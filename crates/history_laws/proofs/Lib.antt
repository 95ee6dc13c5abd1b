pub mod Quiet
pub mod Settling
pub mod Ending
