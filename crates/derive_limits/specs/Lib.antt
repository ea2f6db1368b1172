pub mod Full
pub mod Reached
pub mod Theorems
