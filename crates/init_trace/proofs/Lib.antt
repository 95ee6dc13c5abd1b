pub mod Adding
mod FieldsRead
pub mod LinesPlain
mod Lone
mod ReportRead
pub mod Runs
mod Spelling
pub mod Splitting
mod Lines
pub mod Texts
mod WordsRead
