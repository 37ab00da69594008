pub mod Limits
pub mod Padded
