pub mod Following
pub mod Searches
