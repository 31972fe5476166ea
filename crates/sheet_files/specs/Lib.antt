pub mod Applying
pub mod Bodies
pub mod Faults
pub mod Files
pub mod Reading
