pub mod Theorems
pub mod Among
