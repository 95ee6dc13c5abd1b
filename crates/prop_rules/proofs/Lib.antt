pub mod Blanks
pub mod Defaults
pub mod Expansions
pub mod Lines
pub mod Views
