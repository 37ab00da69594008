pub mod Learned
pub mod Parts
pub mod Priorities
pub mod Fractions
