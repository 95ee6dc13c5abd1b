pub mod Opening
pub mod Meaning
pub mod AreaSerial
pub mod Looking
pub mod Readers
pub mod Hearing
pub mod Noting
