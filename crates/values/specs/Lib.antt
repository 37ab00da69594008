pub mod HintSets
pub mod Sizes
pub mod Texts
