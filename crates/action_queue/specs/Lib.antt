pub mod ByName
pub mod Index
pub mod Pending
pub mod Queue
pub mod Triggers
pub mod internal
