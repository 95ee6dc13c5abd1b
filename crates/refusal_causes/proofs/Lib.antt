pub mod ScriptForms
pub mod ScriptMisfits
pub mod ScriptCauses
pub mod ContextLines
pub mod ContextCauses
pub mod Refusals
pub mod AllowCauses
pub mod StoreFaults
