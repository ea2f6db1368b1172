pub mod Small
pub mod Words
