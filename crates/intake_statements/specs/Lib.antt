pub mod Fine
pub mod Tape
pub mod Lasts
