pub mod Pages
pub mod Histories
pub mod Performs
