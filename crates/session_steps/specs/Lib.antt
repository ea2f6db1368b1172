pub mod Numbers
pub mod Stepped
