pub mod Area
pub mod Seats
pub mod Readers
pub mod Meaning
pub mod Room
pub mod impl_laws
pub mod Places
