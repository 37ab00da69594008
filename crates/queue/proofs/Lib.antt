pub mod Rings
pub mod Enterings
pub mod Removals
