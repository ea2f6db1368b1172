pub mod Steps
pub mod Referring
pub mod Growth
pub mod Sources
pub mod Turns
pub mod Renames
pub mod Importing
