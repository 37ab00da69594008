pub mod Made
pub mod Priorities
