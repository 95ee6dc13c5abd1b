pub mod Kernel
pub mod Living
pub mod Parts
