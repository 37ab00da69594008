pub mod Bounds
pub mod Laws
pub mod Rows
pub mod Rule
pub mod Tables
