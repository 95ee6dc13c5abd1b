pub mod Settled
pub mod Answered
