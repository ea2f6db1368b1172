pub mod Fits
pub mod Cuts
