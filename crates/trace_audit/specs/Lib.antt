pub mod Differences
pub mod Progress
pub mod Audited
pub mod Indexed
pub mod Lists
pub mod Taken
pub mod Texts
