pub mod Saving
pub mod Saved
pub mod Over
