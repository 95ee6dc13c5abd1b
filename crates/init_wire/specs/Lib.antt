pub mod Opening
pub mod Served
pub mod internal
