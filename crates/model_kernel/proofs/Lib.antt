pub mod Answered
pub mod Entries
pub mod Listed
pub mod Pids
pub mod PlanPlaces
