pub mod Answers
pub mod Trees
pub mod Blocks
pub mod Inner
pub mod Statements
pub mod Bodies
