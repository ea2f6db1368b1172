pub mod Valid
pub mod Fresh
