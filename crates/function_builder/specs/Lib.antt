pub mod Stacks
pub mod Makes
pub mod Read
