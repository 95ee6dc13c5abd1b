pub mod Filled
pub mod Crashes
pub mod Steps
pub mod Standing
pub mod Texts
pub mod Recording
pub mod Finds
pub mod FirstTexts
