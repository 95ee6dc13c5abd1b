pub mod Says
pub mod TreeTexts
pub mod RcFiles
pub mod WellFormed
pub mod Prepared
pub mod Stores
