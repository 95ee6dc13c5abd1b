pub mod Acting
pub mod Asks
pub mod Keeping
pub mod Race
pub mod Seating
pub mod Threads
pub mod internal
