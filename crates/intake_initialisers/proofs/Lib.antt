pub mod Visiting
pub mod Reaching
