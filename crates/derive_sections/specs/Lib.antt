pub mod Flat
pub mod Rows
