pub mod Booleans
pub mod Lists
pub mod Stores
pub mod Sums
