pub mod Completed
pub mod Core
pub mod Lending
pub mod Opened
pub mod Reaped
pub mod internal
