pub mod Failing
pub mod Told
