pub mod Blanks
pub mod Contests
pub mod Helds
pub mod Ranks
pub mod Settles
pub mod Seeks
pub mod Views
