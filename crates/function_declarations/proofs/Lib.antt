pub mod Declaring
pub mod Declared
