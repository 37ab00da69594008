pub mod Hinted
pub mod Knowns
pub mod Learned
pub mod Shown
pub mod Suited
