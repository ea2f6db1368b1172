pub mod Entry
pub mod Sources
pub mod Entering
