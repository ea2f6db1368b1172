pub mod Operations
pub mod Theorems
pub mod Answers
pub mod Sessions
