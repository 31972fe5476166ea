pub mod Depots
pub mod Meaning
pub mod Numbers
pub mod Questions
pub mod Covers
pub mod Isolation
pub mod Monotone
pub mod Within
