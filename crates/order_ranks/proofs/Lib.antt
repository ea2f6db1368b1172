-- What the proofs of several functions use, and what a caller has of the answers.
pub mod Bits
pub mod Marks
pub mod Begun
pub mod Turn
pub mod Front
pub mod Whole
pub mod Leaving
pub mod Answers
