pub mod Names
pub mod Notes
pub mod Writes
pub mod Tables
