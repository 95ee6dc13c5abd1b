-- What the plain store keeps, for its own code. No contract of another crate cites it.
pub mod HeldValue
pub mod Stored
pub mod ListStore
