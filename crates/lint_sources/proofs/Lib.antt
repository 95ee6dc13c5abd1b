pub mod Loads
pub mod Worlds
pub mod ReadLines
pub mod Headers
pub mod Bodies
pub mod Placed
pub mod Words
