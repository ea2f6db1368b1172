pub mod Ending
pub mod Operating
pub mod Mapped
pub mod Theorems
pub mod Words
pub mod Steps
pub mod StepBytes
pub mod Examples
