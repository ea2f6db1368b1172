pub mod Compares
pub mod Lasts
pub mod Bears
pub mod Finds
pub mod Firsts
pub mod Counted
