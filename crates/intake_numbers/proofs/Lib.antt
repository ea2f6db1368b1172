pub mod Tabling
pub mod Framing
