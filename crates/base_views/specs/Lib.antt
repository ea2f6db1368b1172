pub mod Functions
pub mod LaidOut
