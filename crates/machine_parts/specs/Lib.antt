pub mod Answers
pub mod Environment
pub mod Parts
pub mod Schedule
pub mod internal
