pub mod Needs
pub mod Alongs
