pub mod Lines
pub mod Cursors
