pub mod Links
pub mod LinkedBytes
pub mod Sessions
pub mod Small
pub mod Marked
