pub mod Answers
pub mod Bytes
pub mod Faults
pub mod Kinds
pub mod Reading
pub mod Records
