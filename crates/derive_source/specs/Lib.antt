pub mod SourceSet
pub mod Cleared
pub mod Examples
pub mod Theorems
