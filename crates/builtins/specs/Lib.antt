pub mod Arguments
pub mod Brief
