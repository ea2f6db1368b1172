pub mod Drawn
pub mod Ranges
pub mod Appending
pub mod Comparing
