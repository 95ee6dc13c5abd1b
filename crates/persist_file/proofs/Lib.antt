pub mod Values
pub mod Cuts
pub mod Order
pub mod Written
pub mod LinesRead
pub mod Whole
pub mod Determined
pub mod Printed
