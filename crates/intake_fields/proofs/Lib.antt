pub mod Flat
pub mod Reading
pub mod Walk
pub mod Rows
pub mod Steps
