pub mod Firsts
pub mod Quiets
