pub mod Naming
pub mod Keeping
