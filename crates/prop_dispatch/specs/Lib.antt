pub mod Relayed
pub mod Clients
pub mod internal
