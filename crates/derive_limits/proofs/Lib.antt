pub mod Full
pub mod Growing
pub mod Reached
pub mod Theorems
