pub mod Running
pub mod Firsts
pub mod Going
pub mod Chunks
