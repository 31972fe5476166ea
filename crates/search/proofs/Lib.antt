pub mod Counting
pub mod Covering
pub mod Outcomes
pub mod Tops
pub mod Stepping
