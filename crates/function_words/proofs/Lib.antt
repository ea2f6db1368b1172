pub mod Running
pub mod Words
pub mod Body
pub mod Calm
