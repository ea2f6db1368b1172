pub mod Reading
pub mod Growing
pub mod Going
pub mod Loops
pub mod Setting
