pub mod Whole
pub mod Bringing
pub mod Answers
pub mod Ending
