pub mod Dispatched
pub mod internal
