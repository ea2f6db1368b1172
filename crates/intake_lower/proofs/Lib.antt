pub mod Steps
pub mod Sections
pub mod Answer
