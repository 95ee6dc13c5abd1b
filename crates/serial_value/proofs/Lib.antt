pub mod Packing
pub mod Moves
pub mod Reading
pub mod LongReading
pub mod OneReader
pub mod Agains
pub mod Told
pub mod LeavingOut
