pub mod Reached
pub mod Standing
pub mod Ordered
pub mod Merged
pub mod Whole
