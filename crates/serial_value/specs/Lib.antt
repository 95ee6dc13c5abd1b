pub mod Words
pub mod Cell
pub mod Steps
pub mod World
pub mod History
pub mod One
pub mod impl_laws
pub mod internal
