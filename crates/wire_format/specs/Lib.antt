pub mod Feeding
pub mod Format
pub mod Spelling
pub mod Wire
pub mod internal
