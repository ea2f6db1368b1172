pub mod Extents
pub mod Header
pub mod Sections
pub mod Whole
pub mod Laying
pub mod Held
