pub mod Counting
pub mod Histories
pub mod Saved
pub mod Rebooting
pub mod Processes
pub mod InOrder
