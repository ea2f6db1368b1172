pub mod Restated
pub mod Leaves
pub mod Scopes
pub mod Results
pub mod Laid
