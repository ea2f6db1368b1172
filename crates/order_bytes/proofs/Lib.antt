pub mod Copying
pub mod Images
pub mod Theorems
