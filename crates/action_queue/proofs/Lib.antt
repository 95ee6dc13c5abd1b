pub mod ByBytes
pub mod Events
pub mod Fronts
pub mod Indexed
pub mod Kept
pub mod Moves
pub mod Places
pub mod Values
