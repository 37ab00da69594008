pub mod Changes
pub mod Pages
pub mod View
