pub mod Sizes
pub mod Images
pub mod Theorems
