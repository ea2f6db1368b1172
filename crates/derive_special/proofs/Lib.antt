pub mod Keys
pub mod Words
pub mod Deriving
pub mod Steps
