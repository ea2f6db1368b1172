pub mod Theorem
pub mod OnBytes
pub mod BytesExamples
pub mod Examples
