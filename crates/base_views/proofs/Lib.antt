pub mod LaidOut
pub mod Places
pub mod Limits
