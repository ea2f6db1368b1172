pub mod Fresh
pub mod Appending
pub mod ByOrder
