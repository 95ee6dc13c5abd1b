pub mod Cells
pub mod Classes
