pub mod Pass
pub mod Passage
pub mod Cases
pub mod Operands
pub mod Light
pub mod Forms
pub mod Ready
pub mod Names
