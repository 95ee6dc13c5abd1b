pub mod Classes
pub mod Laws
pub mod Table
pub mod internal
