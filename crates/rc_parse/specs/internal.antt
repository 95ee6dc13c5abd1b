-- What private functions say of themselves. No promise of the crate cites it, and a reader needn't believe it.
pub mod Adding
pub mod Joining
pub mod Parts
pub mod Settings
pub mod Names
pub mod Merging
pub mod Skimming
