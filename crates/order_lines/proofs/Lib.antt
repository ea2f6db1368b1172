pub mod Bytes
pub mod Joining
