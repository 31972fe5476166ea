pub mod Changing
pub mod Granting
pub mod Powers
pub mod States
pub mod Telling
pub mod Working
