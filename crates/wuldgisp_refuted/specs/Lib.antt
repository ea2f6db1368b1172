pub mod Answers
pub mod Images
pub mod Text
pub mod Links
pub mod Sessions
pub mod Demands
