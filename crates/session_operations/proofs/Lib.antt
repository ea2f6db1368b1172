pub mod Memory
pub mod Plain
pub mod Importing
pub mod Setting
pub mod Finishing
mod Replacing
