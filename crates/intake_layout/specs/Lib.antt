pub mod Extents
pub mod Layout
