pub mod Part
pub mod Places
pub mod Fitting
pub mod Exprs
pub mod Named
pub mod Front
pub mod Body
