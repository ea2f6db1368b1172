pub mod Nested
pub mod Kept
pub mod Single
pub mod Deep
pub mod Entries
pub mod Classes
pub mod Growth
pub mod Theorems
