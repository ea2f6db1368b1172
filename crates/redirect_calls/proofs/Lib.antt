pub mod Leaves
pub mod Pass
pub mod Contexts
pub mod Places
pub mod Turning
