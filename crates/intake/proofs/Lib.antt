pub mod Few
pub mod Tests
pub mod Refusals
