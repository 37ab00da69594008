pub mod Least
pub mod Then
