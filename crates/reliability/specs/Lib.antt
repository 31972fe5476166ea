pub mod Facts
pub mod Joining
pub mod Questions
pub mod Reliability
pub mod Spread
pub mod Tasks
pub mod Totals
