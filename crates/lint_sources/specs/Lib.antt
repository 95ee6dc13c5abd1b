pub mod Loads
pub mod Told
pub mod NotModelled
pub mod Excused
pub mod Sources
pub mod internal
