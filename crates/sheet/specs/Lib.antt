pub mod Calls
pub mod Goals
pub mod Models
pub mod Runs
pub mod Sheets
pub mod Statement
