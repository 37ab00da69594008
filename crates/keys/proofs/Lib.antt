pub mod Alike
pub mod Says
