pub mod Names
pub mod Known
pub mod Fits
pub mod Orders
