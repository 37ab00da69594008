pub mod Leasts
pub mod Orders
pub mod Thens
