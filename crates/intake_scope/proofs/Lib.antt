pub mod Whole
pub mod Images
