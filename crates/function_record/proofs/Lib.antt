pub mod Copying
pub mod Closing
