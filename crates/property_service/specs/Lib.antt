pub mod Record
pub mod Service
pub mod Desk
pub mod Back
pub mod Ending
pub mod Settings
