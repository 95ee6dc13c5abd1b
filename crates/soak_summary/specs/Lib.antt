pub mod Counting
pub mod Summary
pub mod Counts
pub mod impl_laws
