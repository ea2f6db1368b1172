pub mod Listed
pub mod Places
