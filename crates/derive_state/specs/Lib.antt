pub mod Refers
pub mod Source
pub mod Flats
pub mod Pairs
pub mod Marks
pub mod Sizes
pub mod Held
