pub mod NewNodes
pub mod Properties
pub mod Puts
