pub mod Freshness
pub mod Nexts
pub mod Progressing
