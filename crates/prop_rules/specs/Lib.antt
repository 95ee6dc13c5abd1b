pub mod Answers
pub mod Build
pub mod internal
pub mod Pieces
pub mod View
