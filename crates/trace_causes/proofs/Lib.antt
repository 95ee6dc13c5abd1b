pub mod Ends
pub mod Fronts
pub mod Numbered
pub mod OneFault
pub mod Readings
pub mod Shorter
pub mod Splits
