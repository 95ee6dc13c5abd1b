pub mod Arguments
pub mod Statements
pub mod Misfits
pub mod Script
pub mod Contexts
pub mod Allows
pub mod Store
