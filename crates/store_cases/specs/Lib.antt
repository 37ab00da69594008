pub mod Buried
