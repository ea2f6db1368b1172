pub mod Ranging
pub mod Codes
