pub mod Sieving
pub mod Meeting
pub mod Asking
pub mod Wholes
