pub mod Passes
pub mod Claims
